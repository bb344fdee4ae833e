-- A text has one answer.
use Rattle.std.proofs.Common.{◌≡◌, ℕ, ◌≤◌, ◌<◌, List, [], drop, Option, Some, None, Result, Ok, Err, refl, sym, ap, ap₂, subst, ◌∙◌, arith, le_antisymm, ⊎_elim, option_map, slice_get, length}
use Rattle.std.proofs.lemmas.Option.{none-some, same_Some}
use Rattle.sx_span.specs.declared.places.Node.{Node}
use Rattle.sx_token.specs.declared.kinds.Token.{Token}
use Rattle.sx_token.specs.declared.token_list.Tokens.{Tokens}
use Rattle.sx_lexer.specs.declared.faults.LexStop.{LexStop}
use Rattle.sx_lexer.specs.declared.faults.LexStop.TheVariants as lex_stops
use Rattle.sx_lexer.specs.Laws.{IsNoMemory, SameTokens}
use Rattle.sx_lexer.proofs.Agreement as lexing
use Rattle.sx_tree.specs.declared.declarations.Item.{Item}
use Rattle.sx_tree.specs.declared.tree.Tree.{Tree}
use Rattle.sx_tree.specs.Nodes.{all_parameter_places, all_places}
use Rattle.sx_grammar.specs.Value.{Value, items}
use Rattle.sx_grammar.specs.Lexemes.{lexemes}
use Rattle.sx_grammar.specs.Answer.{IsMisfit, IsRead, IsTooDeep, deepest}
use Rattle.sx_parse_decl.specs.Answer.{place}
use Rattle.sx_parser.specs.Answer.{IsDeep, IsLongest, IsSyntax, IsTree, lexemes_of, names_of, start_of}
use Rattle.sx_parser.specs.Text.{text}
use Rattle.sx_typed.specs.declared.program.Typed.{Typed}
use Rattle.sx_scope.specs.declared.stop.TypeKind.{TypeKind}
use Rattle.sx_scope.specs.declared.stop.TypeKind.TheVariants as kinds
use Rattle.sx_scope.specs.declared.stop.TypeStop.{TypeStop}
use Rattle.sx_scope.specs.declared.stop.TypeStop.TheVariants.{Typing, TooWide, Late, NoMemory}
use Rattle.sx_driver.specs.declared.fault.CompileStop.{CompileStop}
use Rattle.sx_driver.specs.declared.fault.CompileStop.TheVariants as stops
use Rattle.sx_driver.specs.declared.fault.Fault.{Fault}
use Rattle.sx_driver.specs.declared.fault.Fault.TheVariants as faults
use Rattle.sx_driver.specs.Faults.{HasTree, HasTokens, HasTyped, HasTypeFault, IsFault, LexStops, Types, lexical_of, most_bytes, late_fault, place_by_kind, place_of, told}
use Rattle.sx_one_answer.specs.Agree.{IsNoMemory as IsWant}
use Rattle.sx_one_answer.specs.Same.{SameTyped}
use Rattle.sx_one_answer.proofs.Answers as checking
use Rattle.sx_texts.specs.Agree.{Agree}
use Rattle.sx_texts.proofs.Readings.{deep_deep, misfit_deep, read_deep, read_misfit}
use Rattle.sx_texts.proofs.SameTrees.{SameTree, checked_too}

-- ---- tokens
same_tokens : (bytes : List ℕ) (t u : Tokens) → HasTokens bytes t → HasTokens bytes u → SameTokens t u
same_tokens bytes t u a b = lexing.agree bytes (Ok t) (Ok u) a.lexes b.lexes

same_lexemes : (t u : Tokens) → SameTokens t u → lexemes_of t ≡ lexemes_of u
same_lexemes t u s = ap₂ (λ ns ts. lexemes ns ts) s.names s.list

-- ---- trees, and why there are none
abbrev items_of : Value → List Item
items_of (items is) = is
items_of v = []

read_too : (t u : Tokens) (v : Value) → SameTokens t u → IsRead deepest text (lexemes_of t) v [] → IsRead deepest text (lexemes_of u) v []
read_too t u v s h = subst (λ ls. IsRead deepest text ls v []) (same_lexemes t u s) h

same_tree : (t u : Tokens) (x y : Tree) → SameTokens t u → IsTree t x → IsTree u y → SameTree x y
same_tree t u x y s a b =
    record {
      items = ap items_of (b.read.only (items x.items) (read_too t u (items x.items) s a.read).whole);
      texts = a.lists.texts ∙ s.texts ∙ sym b.lists.texts;
      names = a.lists.names ∙ s.names ∙ sym b.lists.names;
      lines = a.lists.lines ∙ s.lines ∙ sym b.lists.lines;
    }

-- two trees of one text
trees_of : (bytes : List ℕ) (x y : Tree) → HasTree bytes x → HasTree bytes y → SameTree x y
trees_of bytes x y a b = same_tree a.tokens b.tokens x y (same_tokens bytes a.tokens b.tokens a.has b.has) a.is b.is

longest_once : (names : List (List ℕ)) (ts : List Token) (m n : ℕ) → IsLongest names ts m → IsLongest names ts n → m ≡ n
longest_once names ts m n a b = le_antisymm (b.farthest m a.within a.front) (a.farthest n b.within b.front)

syntax_too : (t u : Tokens) (p : ℕ) → SameTokens t u → IsSyntax t p → IsSyntax u p
syntax_too t u p s a =
    record {
      rest = a.rest;
      misfit = subst (λ ls. IsMisfit deepest text ls a.rest) (same_lexemes t u s) a.misfit;
      count = a.count;
      longest = subst (λ (x : List (List ℕ) × List Token). IsLongest x.0 x.1 a.count) (λ i. (s.names i, s.list i)) a.longest;
      there = a.there ∙ ap₂ (λ e ts. start_of e (drop a.count ts)) s.end s.list;
    }

deep_too : (t u : Tokens) (p : ℕ) → SameTokens t u → IsDeep t p → IsDeep u p
deep_too t u p s a =
    record { rest = a.rest; too_deep = subst (λ ls. IsTooDeep deepest text ls a.rest) (same_lexemes t u s) a.too_deep; there = a.there ∙ ap (λ e. place e a.rest) s.end }

syntax_once : (t : Tokens) (p q : ℕ) → IsSyntax t p → IsSyntax t q → p ≡ q
syntax_once t p q a b =
    a.there ∙ ap (λ n. start_of t.end (drop n t.list.items)) (longest_once (names_of t) t.list.items a.count b.count a.longest b.longest) ∙ sym b.there

deep_once : (t : Tokens) (p q : ℕ) → IsDeep t p → IsDeep t q → p ≡ q
deep_once t p q a b = a.there ∙ ap (place t.end) (deep_deep deepest text (lexemes_of t) a.rest b.rest a.too_deep b.too_deep) ∙ sym b.there

-- ---- the faults of a text, by the part of the front that finds them
data Finds (bytes : List ℕ) : Fault → Type 0 where
  by_length : most_bytes < length bytes → Finds bytes faults.TooLong
  by_lexis : {f : Fault} (stop : LexStop) → LexStops bytes stop → lexical_of stop ≡ stops.Refused f → Finds bytes f
  by_syntax : {at : ℕ} (t : Tokens) → HasTokens bytes t → IsSyntax t at → Finds bytes (faults.Syntax at)
  by_depth : {at : ℕ} (t : Tokens) → HasTokens bytes t → IsDeep t at → Finds bytes (faults.TooDeep at)
  by_types : {f : Fault} → HasTypeFault bytes f → Finds bytes f

finds : (bytes : List ℕ) (f : Fault) → IsFault bytes f → Finds bytes f
finds bytes faults.TooLong h = by_length h
finds bytes (faults.Encoding at) h = by_lexis (lex_stops.Encoding at) h refl
finds bytes (faults.Lexical kind at) h = by_lexis (lex_stops.Lexical kind at) h refl
finds bytes (faults.TooManyTokens at) h = by_lexis (lex_stops.TooManyTokens at) h refl
finds bytes (faults.Syntax at) h = by_syntax h.tokens h.has h.is
finds bytes (faults.TooDeep at) h = by_depth h.tokens h.has h.is
finds bytes (faults.Typing kind at) h = by_types h
finds bytes (faults.TooWide at) h = by_types h
finds bytes (faults.Late at global) h = by_types h
finds bytes faults.Unbuilt h = absurd h

-- ---- what excludes each other
long_or_short : {P : Type 0} (bytes : List ℕ) → most_bytes < length bytes → length bytes ≤ most_bytes → P
long_or_short bytes l s = absurd (omega (arith, l, s))

abbrev refused : CompileStop → Option Fault
refused (stops.Refused f) = Some f
refused stops.NoMemory = None

want_refuses : {P : Type 0} (stop : LexStop) (f : Fault) → IsNoMemory stop → lexical_of stop ≡ stops.Refused f → P
want_refuses lex_stops.NoMemory f w e = absurd (none-some f (ap refused e))
want_refuses (lex_stops.Encoding at) f w e = absurd w
want_refuses (lex_stops.Lexical kind at) f w e = absurd w
want_refuses (lex_stops.TooManyTokens at) f w e = absurd w

tokens_or_stop : {P : Type 0} (bytes : List ℕ) (t : Tokens) (stop : LexStop) (f : Fault) → HasTokens bytes t → LexStops bytes stop → lexical_of stop ≡ stops.Refused f → P
tokens_or_stop bytes t stop f a b e = want_refuses stop f (lexing.agree bytes (Ok t) (Err stop) a.lexes b.1) e

lexis_once : (bytes : List ℕ) (one two : LexStop) (f g : Fault) → LexStops bytes one → LexStops bytes two → lexical_of one ≡ stops.Refused f → lexical_of two ≡ stops.Refused g → f ≡ g
lexis_once bytes one two f g a b e h =
    ⊎_elim (λ w. want_refuses one f w e)
    (⊎_elim (λ w. want_refuses two g w h) (λ same. same_Some f g (ap refused (sym e ∙ ap lexical_of same ∙ h))))
    (lexing.agree bytes (Err one) (Err two) a.1 b.1)

tree_or_syntax : {P : Type 0} (bytes : List ℕ) (x : Tree) (t : Tokens) (p : ℕ) → HasTree bytes x → HasTokens bytes t → IsSyntax t p → P
tree_or_syntax bytes x t p a b h =
    read_misfit deepest text (lexemes_of t) (items x.items) h.rest (read_too a.tokens t (items x.items) (same_tokens bytes a.tokens t a.has b) a.is.read) h.misfit

tree_or_depth : {P : Type 0} (bytes : List ℕ) (x : Tree) (t : Tokens) (p : ℕ) → HasTree bytes x → HasTokens bytes t → IsDeep t p → P
tree_or_depth bytes x t p a b h =
    read_deep deepest text (lexemes_of t) (items x.items) h.rest (read_too a.tokens t (items x.items) (same_tokens bytes a.tokens t a.has b) a.is.read) h.too_deep

syntax_or_depth : {P : Type 0} (bytes : List ℕ) (t u : Tokens) (p q : ℕ) → HasTokens bytes t → HasTokens bytes u → IsSyntax t p → IsDeep u q → P
syntax_or_depth bytes t u p q a b h k =
    let here : IsSyntax u p = syntax_too t u p (same_tokens bytes t u a b) h in
    misfit_deep deepest text (lexemes_of u) here.rest k.rest here.misfit k.too_deep

-- ---- names and types
want_tells : {P : Type 0} (x : Tree) (stop : TypeStop) (f : Fault) → IsWant stop → told x stop ≡ Some f → P
want_tells x NoMemory f w e = absurd (none-some f e)
want_tells x (Typing kind n) f w e = absurd w
want_tells x (TooWide n) f w e = absurd w
want_tells x (Late at global) f w e = absurd w

place_too : (x y : Tree) (kind : TypeKind) (n : Node) → x.items ≡ y.items → place_by_kind x kind n ≡ place_by_kind y kind n
place_too x y kinds.Duplicate n e = ap (λ is. slice_get (all_parameter_places is) n.0) e
place_too x y kind n e = ap (λ is. slice_get (all_places is) n.0) e

at_too : (x y : Tree) (n : Node) → x.items ≡ y.items → place_of x n ≡ place_of y n
at_too x y n e = ap (λ is. slice_get (all_places is) n.0) e

told_too : (x y : Tree) (stop : TypeStop) → x.items ≡ y.items → told x stop ≡ told y stop
told_too x y (Typing kind n) e = ap (option_map (faults.Typing kind)) (place_too x y kind n e)
told_too x y (TooWide n) e = ap (option_map faults.TooWide) (at_too x y n e)
told_too x y (Late at global) e = ap₂ late_fault (at_too x y at e) (at_too x y global e)
told_too x y NoMemory e = refl

types_once : (bytes : List ℕ) (f g : Fault) → HasTypeFault bytes f → HasTypeFault bytes g → f ≡ g
types_once bytes f g a b =
    let same : SameTree a.tree b.tree = trees_of bytes a.tree b.tree a.has b.has in
    let here : told b.tree a.stop ≡ Some f = sym (told_too a.tree b.tree a.stop same.items) ∙ a.is in
    ⊎_elim (λ w. want_tells b.tree a.stop f w here)
    (⊎_elim (λ w. want_tells b.tree b.stop g w b.is) (λ e. same_Some f g (sym here ∙ ap (told b.tree) e ∙ b.is)))
    (checking.agree b.tree (Err a.stop) (Err b.stop) (checked_too a.tree b.tree same (Err a.stop) a.checked) b.checked)

typed_or_fault : {P : Type 0} (bytes : List ℕ) (t : Typed) (f : Fault) → HasTyped bytes t → HasTypeFault bytes f → P
typed_or_fault bytes t f a b =
    let same : SameTree a.tree b.tree = trees_of bytes a.tree b.tree a.has b.has in
    want_tells b.tree b.stop f (checking.agree b.tree (Ok t) (Err b.stop) (checked_too a.tree b.tree same (Ok t) a.checked) b.checked) b.is

typed_once : (bytes : List ℕ) (t u : Typed) → HasTyped bytes t → HasTyped bytes u → SameTyped t u
typed_once bytes t u a b =
    let same : SameTree a.tree b.tree = trees_of bytes a.tree b.tree a.has b.has in
    checking.agree b.tree (Ok t) (Ok u) (checked_too a.tree b.tree same (Ok t) a.checked) b.checked

-- ---- a text with a tree, and any fault
tree_or_fault : {P : Type 0} (bytes : List ℕ) (x : Tree) (f : Fault) → HasTree bytes x → (HasTypeFault bytes f → P) → Finds bytes f → P
tree_or_fault bytes x f a h (by_length l) = long_or_short bytes l a.has.short
tree_or_fault bytes x f a h (by_lexis stop s e) = tokens_or_stop bytes a.tokens stop f a.has s e
tree_or_fault bytes x f a h (by_syntax {at = at} t k s) = tree_or_syntax bytes x t at a k s
tree_or_fault bytes x f a h (by_depth {at = at} t k d) = tree_or_depth bytes x t at a k d
tree_or_fault bytes x f a h (by_types b) = h b

faults_once : (bytes : List ℕ) (f g : Fault) → Finds bytes f → Finds bytes g → f ≡ g
faults_once bytes f g (by_length l) (by_length m) = refl
faults_once bytes f g (by_length l) (by_lexis stop s e) = long_or_short bytes l s.0
faults_once bytes f g (by_length l) (by_syntax t k s) = long_or_short bytes l k.short
faults_once bytes f g (by_length l) (by_depth t k d) = long_or_short bytes l k.short
faults_once bytes f g (by_length l) (by_types b) = long_or_short bytes l b.has.has.short
faults_once bytes f g (by_lexis stop s e) (by_length l) = long_or_short bytes l s.0
faults_once bytes f g (by_lexis stop s e) (by_lexis other o h) = lexis_once bytes stop other f g s o e h
faults_once bytes f g (by_lexis stop s e) (by_syntax t k r) = tokens_or_stop bytes t stop f k s e
faults_once bytes f g (by_lexis stop s e) (by_depth t k d) = tokens_or_stop bytes t stop f k s e
faults_once bytes f g (by_lexis stop s e) (by_types b) = tokens_or_stop bytes b.has.tokens stop f b.has.has s e
faults_once bytes f g (by_syntax t k r) (by_length l) = long_or_short bytes l k.short
faults_once bytes f g (by_syntax t k r) (by_lexis stop s e) = tokens_or_stop bytes t stop g k s e
faults_once bytes f g (by_syntax {at = p} t k r) (by_syntax {at = q} u o s) = ap faults.Syntax (syntax_once u p q (syntax_too t u p (same_tokens bytes t u k o) r) s)
faults_once bytes f g (by_syntax {at = p} t k r) (by_depth {at = q} u o d) = syntax_or_depth bytes t u p q k o r d
faults_once bytes f g (by_syntax {at = p} t k r) (by_types b) = tree_or_syntax bytes b.tree t p b.has k r
faults_once bytes f g (by_depth t k d) (by_length l) = long_or_short bytes l k.short
faults_once bytes f g (by_depth t k d) (by_lexis stop s e) = tokens_or_stop bytes t stop g k s e
faults_once bytes f g (by_depth {at = p} t k d) (by_syntax {at = q} u o r) = syntax_or_depth bytes u t q p o k r d
faults_once bytes f g (by_depth {at = p} t k d) (by_depth {at = q} u o c) = ap faults.TooDeep (deep_once u p q (deep_too t u p (same_tokens bytes t u k o) d) c)
faults_once bytes f g (by_depth {at = p} t k d) (by_types b) = tree_or_depth bytes b.tree t p b.has k d
faults_once bytes f g (by_types a) (by_length l) = long_or_short bytes l a.has.has.short
faults_once bytes f g (by_types a) (by_lexis stop s e) = tokens_or_stop bytes a.has.tokens stop g a.has.has s e
faults_once bytes f g (by_types a) (by_syntax {at = q} u o r) = tree_or_syntax bytes a.tree u q a.has o r
faults_once bytes f g (by_types a) (by_depth {at = q} u o d) = tree_or_depth bytes a.tree u q a.has o d
faults_once bytes f g (by_types a) (by_types b) = types_once bytes f g a b

pub agree : (bytes : List ℕ) (r s : Result Typed CompileStop) → Types bytes r → Types bytes s → Agree r s
agree bytes (Err stops.NoMemory) s a b = tt
agree bytes (Ok t) (Err stops.NoMemory) a b = tt
agree bytes (Err (stops.Refused f)) (Err stops.NoMemory) a b = tt
agree bytes (Ok t) (Ok u) a b = typed_once bytes t u a b
agree bytes (Ok t) (Err (stops.Refused g)) a b = tree_or_fault bytes a.tree g a.has (λ h. typed_or_fault bytes t g a h) (finds bytes g b.0)
agree bytes (Err (stops.Refused f)) (Ok u) a b = tree_or_fault bytes b.tree f b.has (λ h. typed_or_fault bytes u f b h) (finds bytes f a.0)
agree bytes (Err (stops.Refused f)) (Err (stops.Refused g)) a b = faults_once bytes f g (finds bytes f a.0) (finds bytes g b.0)
