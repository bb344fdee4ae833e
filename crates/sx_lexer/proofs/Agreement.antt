-- Two answers to one text are the same.
use Rattle.std.proofs.Common.{◌≡◌, ℕ, List, length, true, Some, None, Result, Ok, Err, ◌⊎◌, inl, inr, sym, ap, ◌∙◌, subst, arith, slice_get}
use Rattle.std.specs.Str.{chars}
use Rattle.std.proofs.lemmas.Option.{slice_get_within}
use Rattle.std.proofs.lemmas.Str.{utf8_valid_len-IsValidUpTo}
use Rattle.sx_token.specs.declared.token_list.Tokens.{Tokens}
use Rattle.sx_lexer.specs.declared.faults.LexKind.{LexKind}
use Rattle.sx_lexer.specs.declared.faults.LexStop.{LexStop}
use Rattle.sx_lexer.specs.declared.faults.LexStop.TheVariants as stops
use Rattle.sx_lexer.specs.Lexis.{Lexed, LexesAll, FaultsFirst, behind_mark}
use Rattle.sx_lexer.specs.Shown.{shown_all, names_of, texts_of, place_in}
use Rattle.sx_lexer.specs.Answers.{Answers, IsTokens}
use Rattle.sx_lexer.specs.Laws.{SameTokens, IsNoMemory, Agree}
use Rattle.sx_lexer.proofs.Once.{lexes_once, faults_once, lexes_or_faults}

same_lexed : (text : List ℕ) (ts us : List Lexed) → LexesAll text ts → LexesAll text us → ts ≡ us
same_lexed text ts us x y = lexes_once true true (behind_mark text) ts x us y

not_both : {X : Type 0} (text p : List ℕ) (k : LexKind) (ts : List Lexed) → LexesAll text ts → FaultsFirst text k p → X
not_both text p k ts x y = lexes_or_faults true true (behind_mark text) ts x p k y

some_same : {X : Type 0} (a b : X) → Some a ≡ Some b → a ≡ b
some_same {X = X} a b h = ap (λ o. elim o as (λ _. X) [ Some x ↦ x | None ↦ a ]) h

module _ (bytes : List ℕ) where
  same_tokens : (t u : Tokens) → IsTokens bytes t → IsTokens bytes u → SameTokens t u
  same_tokens t u x y =
      let e = same_lexed (chars bytes) x.lexed y.lexed x.lexes y.lexes in
      record {
        list = x.shows.list ∙ (ap (λ ls. shown_all (names_of ls) (length bytes) 0 ls) e ∙ sym y.shows.list);
        texts = x.shows.texts ∙ (ap texts_of e ∙ sym y.shows.texts);
        names = x.shows.names ∙ (ap names_of e ∙ sym y.shows.names);
        lines = x.shows.lines ∙ sym y.shows.lines;
        end = x.shows.end ∙ sym y.shows.end;
      }

  tokens_alone : (t : Tokens) (e : LexStop) → IsTokens bytes t → Answers bytes (Err e) → IsNoMemory e
  tokens_alone t stops.NoMemory x y = tt
  tokens_alone t (stops.Encoding at) x y = absurd (y.0 x.utf8)
  tokens_alone t (stops.Lexical k at) x y = not_both (chars bytes) y.1 k x.lexed x.lexes y.2
  tokens_alone t (stops.TooManyTokens at) x y =
      let e = same_lexed (chars bytes) y.lexed x.lexed y.lexes x.lexes in
      let within = slice_get_within x.lexed 65536 y.first (subst (λ ls. slice_get ls 65536 ≡ Some y.first) e y.many) in
      absurd (omega (arith, within, x.few))

  same_stop : (e f : LexStop) → Answers bytes (Err e) → Answers bytes (Err f) → IsNoMemory e ⊎ (IsNoMemory f ⊎ (e ≡ f))
  same_stop stops.NoMemory f x y = inl tt
  same_stop (stops.Encoding at) stops.NoMemory x y = inr (inl tt)
  same_stop (stops.Encoding at) (stops.Encoding to) x y =
      inr (inr (ap stops.Encoding (sym (utf8_valid_len-IsValidUpTo bytes at x.1) ∙ utf8_valid_len-IsValidUpTo bytes to y.1)))
  same_stop (stops.Encoding at) (stops.Lexical m to) x y = absurd (x.0 y.0)
  same_stop (stops.Encoding at) (stops.TooManyTokens to) x y = absurd (x.0 y.utf8)
  same_stop (stops.Lexical k at) stops.NoMemory x y = inr (inl tt)
  same_stop (stops.Lexical k at) (stops.Encoding to) x y = absurd (y.0 x.0)
  same_stop (stops.Lexical k at) (stops.Lexical m to) x y =
      let e = faults_once (behind_mark (chars bytes)) x.1 k x.2 y.1 m y.2 in
      let place : at ≡ to = x.3 ∙ (ap (place_in (length bytes)) e.first ∙ sym y.3) in
      inr (inr (ap (λ n. stops.Lexical n at) e.second ∙ ap (stops.Lexical m) place))
  same_stop (stops.Lexical k at) (stops.TooManyTokens to) x y = not_both (chars bytes) x.1 k y.lexed y.lexes x.2
  same_stop (stops.TooManyTokens at) stops.NoMemory x y = inr (inl tt)
  same_stop (stops.TooManyTokens at) (stops.Encoding to) x y = absurd (y.0 x.utf8)
  same_stop (stops.TooManyTokens at) (stops.Lexical m to) x y = not_both (chars bytes) y.1 m x.lexed x.lexes y.2
  same_stop (stops.TooManyTokens at) (stops.TooManyTokens to) x y =
      let e = same_lexed (chars bytes) x.lexed y.lexed x.lexes y.lexes in
      let first : x.first ≡ y.first = some_same x.first y.first (sym x.many ∙ (ap (λ ls. slice_get ls 65536) e ∙ y.many)) in
      inr (inr (ap stops.TooManyTokens (x.place ∙ (ap (λ l. place_in (length bytes) l.from) first ∙ sym y.place))))

  pub agree : (r s : Result Tokens LexStop) → Answers bytes r → Answers bytes s → Agree r s
  agree (Ok t) (Ok u) x y = same_tokens t u x y
  agree (Ok t) (Err e) x y = tokens_alone t e x y
  agree (Err e) (Ok u) x y = tokens_alone u e y x
  agree (Err e) (Err f) x y = same_stop e f x y
