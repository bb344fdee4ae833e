-- Where each rule makes something placed of what is placed, what stands for placed tokens is placed.
use Rattle.std.proofs.Common.{ℕ, List, Bool, true, false, cond}
use Rattle.sx_grammar.specs.declared.lexemes.Lexeme.{Lexeme}
use Rattle.sx_grammar.specs.Value.{Value}
use Rattle.sx_grammar.specs.Grammar.{Grammar, empty, token, both, either, many, deeper, select, begin, giving, Whole, whole_empty, whole_token, whole_both, whole_left, whole_right, whole_none, whole_more, whole_deeper, whole_select, whole_begin, whole_giving}
use Rattle.sx_tree_places.proofs.Each.{Each}
use Rattle.sx_tree_places.proofs.Placed.{Placed, KeptBy}

module _ (P : ℕ → Type 0) where
  abbrev pub LexemePlaced : Lexeme → Type 0
  LexemePlaced l = P l.token.span.start

  -- each rule in a grammar; what stands behind a token that opens a level is a rule of its own
  abbrev pub Keeps : Grammar → Type 0
  Keeps empty = Unit {0}
  Keeps (token cs) = Unit {0}
  Keeps (both a b) = Keeps a × Keeps b
  Keeps (either a b) = Keeps a × Keeps b
  Keeps (many g) = Keeps g
  Keeps (deeper cs n) = Unit {0}
  Keeps (select a p b c) = Keeps a × Keeps b × Keeps c
  Keeps (begin cs g) = Keeps g
  Keeps (giving f g) = KeptBy P f × Keeps g

  keeps_either : (x : Bool) (b c : Grammar) → Keeps b → Keeps c → Keeps (cond x b c)
  keeps_either true b c h k = h
  keeps_either false b c h k = k

  abbrev pub Kept : Value → List Lexeme → Type 0
  Kept v rest = Placed P v × Each LexemePlaced rest

  module _ (body : ℕ → Grammar) (rules : (n : ℕ) → Keeps (body n)) where
    pub whole_placed : {g : Grammar} {v : Value} {ts rest : List Lexeme} → Whole body g v ts rest → Keeps g → Each LexemePlaced ts → Kept v rest
    whole_placed whole_empty k h = (tt, h)
    whole_placed (whole_token i) k (h, hs) = (h, hs)
    whole_placed (whole_both p q) (k, l) h =
        let (v, r) = whole_placed p k h in
        let (w, s) = whole_placed q l r in
        ((v, w), s)
    whole_placed (whole_left p) (k, l) h = whole_placed p k h
    whole_placed (whole_right p) (k, l) h = whole_placed p l h
    whole_placed whole_none k h = (tt, h)
    whole_placed (whole_more p q) k h =
        let (v, r) = whole_placed p k h in
        let (w, s) = whole_placed q k r in
        ((v, w), s)
    whole_placed (whole_deeper {n = n} i p) k (h, hs) =
        let (v, r) = whole_placed p (rules n) hs in
        ((h, v), r)
    whole_placed (whole_select {b = b} {c = c} {p = test} {v = x} p q) (k, l, m) h =
        let (v, r) = whole_placed p k h in
        let (w, s) = whole_placed q (keeps_either (test x) b c l m) r in
        ((v, w), s)
    whole_placed (whole_begin i p) k h = whole_placed p k h
    whole_placed (whole_giving {v = x} p) (f, k) h =
        let (v, r) = whole_placed p k h in
        (f x v, r)
