-- From gathered tokens to the answer of the lexer.
use Rattle.std.proofs.Common.{◌≡◌, ℕ, zero, suc, ◌+◌, List, [], ◌∷◌, length, Some, Result, Ok, Err, refl, sym, ap, ◌∙◌, subst, arith, slice_get, IfOk, IfErr, Vec, Global, true}
use Rattle.std.specs.Str.{chars, IsUtf8}
use Rattle.sx_span.specs.Lines.{line_starts}
use Rattle.sx_token.specs.Sound.{contents}
use Rattle.sx_token.specs.declared.kinds.Token.{Token}
use Rattle.sx_token.specs.declared.token_list.Tokens.{Tokens}
use Rattle.sx_lexer.specs.declared.gathering.Gathered.{Gathered}
use Rattle.sx_lexer.specs.declared.faults.LexStop.{LexStop}
use Rattle.sx_lexer.specs.declared.faults.LexStop.TheVariants as stops
use Rattle.sx_lexer.specs.Lexis.{Lexed, Lexes, Faults, behind_mark}
use Rattle.sx_lexer.specs.Shown.{shown, shown_all, text_in, place_in, names_of}
use Rattle.sx_lexer.specs.Gathered.{IsGathered, IsGatherStop, Finishes, IsFinishStop}
use Rattle.sx_lexer.specs.Answers.{Answers, IsTokens}
use Rattle.sx_lexer.proofs.Turns.{count_shown, At, none_some, some_same}

pub shown_at : (names : List (List ℕ)) (end n : ℕ) (ls : List Lexed) (k : ℕ) (t : Token) → slice_get (shown_all names end n ls) k ≡ Some t → At end ls k t
shown_at names end n [] k t h = none_some t h
shown_at names end n (l ∷ ls) zero t h = record { lexed = l; there = refl; start = sym (ap (λ x. x.span.start) (some_same (shown names end n l) t h)) }
shown_at names end n (l ∷ ls) (suc k) t h =
    let i = shown_at names end (n + length (text_in l.lexeme)) ls k t h in
    record { lexed = i.lexed; there = i.there; start = i.start }

pub stop_answers : (bytes s : List ℕ) (end : ℕ) (e : LexStop) → IsUtf8 bytes → s ≡ behind_mark (chars bytes) → end ≡ length bytes → IsGatherStop end s e → Answers bytes (Err e)
stop_answers bytes s end (stops.Lexical k at) u f g h = (u, h.0, subst (λ x. Faults x k h.0) f h.1, h.2 ∙ ap (λ x. place_in x h.0) g)
stop_answers bytes s end stops.NoMemory u f g h = tt
stop_answers bytes s end (stops.Encoding at) u f g h = absurd h
stop_answers bytes s end (stops.TooManyTokens at) u f g h = absurd h

module _ (bytes s : List ℕ) (end : ℕ) (g : Gathered) (lines : Vec ℕ Global) (u : IsUtf8 bytes) (f : s ≡ behind_mark (chars bytes)) (e : end ≡ length bytes) (h : IsGathered end s g) (l : lines.items ≡ line_starts bytes) where
  ok_answers : (t : Tokens) → Finishes g lines end t → IsTokens bytes t
  ok_answers t same =
      let a : t.list.items ≡ shown_all (names_of h.lexed) end 0 h.lexed = ap (λ v. v.items) same.list ∙ h.holds.list in
      let b = ap length a in
      let c = count_shown (names_of h.lexed) end 0 h.lexed in
      let d = t.few in
      record {
        utf8 = u;
        lexed = h.lexed;
        lexes = subst (λ x. Lexes true true x h.lexed) f h.lexes;
        few = omega (arith, d, b, c);
        shows = record {
          list = a ∙ ap (λ x. shown_all (names_of h.lexed) x 0 h.lexed) e;
          texts = ap (λ v. contents v.items) same.texts ∙ h.holds.texts;
          names = same.names ∙ h.holds.names;
          lines = ap (λ v. v.items) same.lines_same ∙ l;
          end = same.end_same ∙ e;
        };
      }

  many_answers : (x : LexStop) → IsFinishStop g.list.items x → Answers bytes (Err x)
  many_answers (stops.TooManyTokens at) m =
      let a = shown_at (names_of h.lexed) end 0 h.lexed 65536 m.0 (sym (ap (λ y. slice_get y 65536) h.holds.list) ∙ m.1) in
      record {
        utf8 = u;
        lexed = h.lexed;
        lexes = subst (λ y. Lexes true true y h.lexed) f h.lexes;
        first = a.lexed;
        many = a.there;
        place = m.2 ∙ (a.start ∙ ap (λ y. place_in y a.lexed.from) e);
      }
  many_answers stops.NoMemory m = tt
  many_answers (stops.Encoding at) m = absurd m
  many_answers (stops.Lexical k at) m = absurd m

  pub finish_answers : (r : Result Tokens LexStop) → IfOk r (Finishes g lines end) → IfErr r (IsFinishStop g.list.items) → Answers bytes r
  finish_answers (Ok t) tokens stop = ok_answers t tokens
  finish_answers (Err x) tokens stop = many_answers x stop
