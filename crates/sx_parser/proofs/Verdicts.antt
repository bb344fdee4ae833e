-- What the run over a text means for its parser.
use Rattle.std.proofs.Common.{◌≡◌, ℕ, zero, suc, ◌-◌, ◌≤◌, List, [], ◌∷◌, length, drop, Bool, true, false, refl, sym, ap, ◌∙◌, subst, arith, Some}
use Rattle.sx_token.specs.declared.kinds.Token.{Token}
use Rattle.sx_token.specs.declared.token_list.Tokens.{Tokens}
use Rattle.sx_grammar.specs.declared.lexemes.Lexeme.{Lexeme}
use Rattle.sx_tree.specs.declared.declarations.Item.{Item}
use Rattle.sx_tree.specs.declared.tree.Tree.{Tree}
use Rattle.sx_grammar.specs.Value.{items}
use Rattle.sx_grammar.specs.Grammar.{done, fault, Cause, misfit, missing, run}
use Rattle.sx_grammar.specs.Rules.{body}
use Rattle.sx_grammar.specs.Lexemes.{lexemes}
use Rattle.sx_grammar.specs.Answer.{deepest, IsRead}
use Rattle.sx_grammar.proofs.Suffixes.{suffix_drop}
use Rattle.sx_grammar.proofs.Verdict.{done_is, misfit_is, too_deep_is}
use Rattle.sx_parse_decl.specs.Answer.{place}
use Rattle.sx_parse_decl.specs.Reading.{blame, is_deep}
use Rattle.sx_parse_decl.proofs.Declared.{blamed, fault_suffix, fits, length_lexemes}
use Rattle.sx_parser.specs.Text.{text}
use Rattle.sx_parser.specs.Answer.{HasLists, IsDeep, IsLongest, IsSyntax, IsTree, lexemes_of, names_of, start_of}
use Rattle.sx_parser.proofs.Choices.{text_fine}

start_is : (names : List (List ℕ)) (end n : ℕ) (ts : List Token) → start_of end (drop n ts) ≡ place end (drop n (lexemes names ts))
unfolding lexemes
start_is names end zero [] = refl
start_is names end zero (t ∷ ts) = refl
start_is names end (suc n) [] = refl
start_is names end (suc n) (t ∷ ts) = start_is names end n ts

not_misfit : (c : Cause) → is_deep c ≡ true → c ≡ misfit false → ⊥
not_misfit c h e = let x = sym h ∙ ap is_deep e in cc x

is_misfit : (c : Cause) → is_deep c ≡ false → c ≡ misfit false
is_misfit (misfit true) h = absurd (cc)
is_misfit (misfit false) h = refl
is_misfit missing h = absurd (cc)

module _ (tokens : Tokens) (left : ℕ) where
  abbrev pub StopsAt : Bool → Type 0
  StopsAt deep = blame (run body deepest text (lexemes_of tokens)) ≡ Some (left, deep)

  pub left_within : (deep : Bool) → StopsAt deep → left ≤ length tokens.list.items
  left_within deep h = let x = fits deepest text (lexemes_of tokens) left deep h in let e = length_lexemes (names_of tokens) tokens.list.items in omega (arith, x, e)

  pub too_deep : (at : ℕ) → StopsAt true → at ≡ start_of tokens.end (drop (length tokens.list.items - left) tokens.list.items) → IsDeep tokens at
  too_deep at h e =
      let ls = lexemes_of tokens in
      let ts = tokens.list.items in
      let b = blamed (run body deepest text ls) left true h in
      let n : length ts - left ≡ length ls - length b.rest = let k = length_lexemes (names_of tokens) ts in let l = b.left_is in omega (arith, k, l) in
      record {
        rest = b.rest;
        too_deep = too_deep_is deepest text text_fine ls b.rest b.cause b.is (not_misfit b.cause b.deep_is);
        there = e ∙ start_is (names_of tokens) tokens.end (length ts - left) ts ∙ ap (λ (n : ℕ). place tokens.end (drop n ls)) n ∙ ap (λ (r : List Lexeme). place tokens.end r) (suffix_drop (fault_suffix deepest text ls b.rest b.cause b.is));
      }

  pub syntax : (count at : ℕ) → StopsAt false → IsLongest (names_of tokens) tokens.list.items count → at ≡ start_of tokens.end (drop count tokens.list.items) → IsSyntax tokens at
  syntax count at h x e =
      let ls = lexemes_of tokens in
      let b = blamed (run body deepest text ls) left false h in
      record {
        rest = b.rest;
        misfit = misfit_is deepest text text_fine ls b.rest (b.is ∙ ap (λ (c : Cause). fault b.rest c) (is_misfit b.cause b.deep_is));
        count = count;
        longest = x;
        there = e;
      }

pub is_tree : (tokens : Tokens) (xs : List Item) (tree : Tree) → run body deepest text (lexemes_of tokens) ≡ done (items xs) [] → tree.items ≡ xs → HasLists tokens tree → IsTree tokens tree
is_tree tokens xs tree h e x = record {
  read = subst (λ (ys : List Item). IsRead deepest text (lexemes_of tokens) (items ys) []) (sym e) (done_is deepest text text_fine (lexemes_of tokens) (items xs) [] h);
  lists = x;
}
