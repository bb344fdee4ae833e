-- Which fault a text has: the first rule that it breaks, in one order.
use Rattle.std.specs.Prelude.{◌≡◌, ℕ, ◌≤◌, ◌<◌, List, length, slice_get, Option, Some, None, option_map, option_and_then, Result, Ok, Err}
use Rattle.sx_span.specs.declared.places.Node.{Node}
use Rattle.sx_token.specs.declared.token_list.Tokens.{Tokens}
use Rattle.sx_tree.specs.declared.tree.Tree.{Tree}
use Rattle.sx_tree.specs.Nodes.{all_places, all_parameter_places}
use Rattle.sx_typed.specs.declared.program.Typed.{Typed}
use Rattle.sx_scope.specs.declared.stop.TypeKind.{TypeKind}
use Rattle.sx_scope.specs.declared.stop.TypeKind.TheVariants as kinds
use Rattle.sx_scope.specs.declared.stop.TypeStop.{TypeStop}
use Rattle.sx_scope.specs.declared.stop.TypeStop.TheVariants as type_stops
use Rattle.sx_check_decl.specs.Program.{Checked}
use Rattle.sx_lexer.specs.Answers.{IsTokens, Answers as LexAnswers}
use Rattle.sx_lexer.specs.declared.faults.LexStop.{LexStop}
use Rattle.sx_lexer.specs.declared.faults.LexStop.TheVariants as lex_stops
use Rattle.sx_parse_decl.specs.declared.declaration.ParseStop.{ParseStop}
use Rattle.sx_parse_decl.specs.declared.declaration.ParseStop.TheVariants as parse_stops
use Rattle.sx_parser.specs.Answer.{IsTree, IsSyntax, IsDeep}
use Rattle.sx_driver.specs.declared.fault.Fault.{Fault}
use Rattle.sx_driver.specs.declared.fault.Fault.TheVariants as faults
use Rattle.sx_driver.specs.declared.fault.CompileStop.{CompileStop}
use Rattle.sx_driver.specs.declared.fault.CompileStop.TheVariants as stops

-- the greatest size of a text, in bytes
abbrev pub most_bytes : ℕ
most_bytes = 262144

-- The text is short enough and has these tokens.
pub record HasTokens (text : List ℕ) (tokens : Tokens) : Type 0 where
  pub short : length text ≤ most_bytes
  pub lexes : IsTokens text tokens

-- lexing a text that is short enough stops so
abbrev pub LexStops : List ℕ → LexStop → Type 0
LexStops text stop = (length text ≤ most_bytes) × LexAnswers text (Err stop)

-- The text has this tree.
pub record HasTree (text : List ℕ) (tree : Tree) : Type 0 where
  pub tokens : Tokens
  pub has : HasTokens text tokens
  pub is : IsTree tokens tree

-- The text has tokens, and no tree, since the token at this place is at fault.
pub record HasSyntaxFault (text : List ℕ) (at : ℕ) : Type 0 where
  pub tokens : Tokens
  pub has : HasTokens text tokens
  pub is : IsSyntax tokens at

-- The text has tokens, and the one at this place opens a level too much.
pub record NestsTooDeep (text : List ℕ) (at : ℕ) : Type 0 where
  pub tokens : Tokens
  pub has : HasTokens text tokens
  pub is : IsDeep tokens at

-- ---- names, types and globals that are reached too late
-- where a fault of this node stands
abbrev pub place_of : Tree → Node → Option ℕ
place_of tree n = slice_get (all_places tree.items) n.0

-- A duplicate at an accessor or observer is its parameter's, and stands there.
abbrev pub place_by_kind : Tree → TypeKind → Node → Option ℕ
place_by_kind tree kinds.Duplicate n = slice_get (all_parameter_places tree.items) n.0
place_by_kind tree kind n = place_of tree n

abbrev pub late_fault : Option ℕ → Option ℕ → Option Fault
late_fault at global = option_and_then (λ a. option_map (faults.Late a) global) at

-- what is told of a tree that isn't typed
abbrev pub told : Tree → TypeStop → Option Fault
told tree (type_stops.Typing kind n) = option_map (faults.Typing kind) (place_by_kind tree kind n)
told tree (type_stops.TooWide n) = option_map faults.TooWide (place_of tree n)
told tree (type_stops.Late at global) = late_fault (place_of tree at) (place_of tree global)
told tree type_stops.NoMemory = None

-- The text has a tree, and this is told of it.
pub record HasTypeFault (text : List ℕ) (fault : Fault) : Type 0 where
  pub tree : Tree
  pub has : HasTree text tree
  pub stop : TypeStop
  pub checked : Checked tree (Err stop)
  pub is : told tree stop ≡ Some fault

-- The text has this typed tree.
pub record HasTyped (text : List ℕ) (typed : Typed) : Type 0 where
  pub tree : Tree
  pub has : HasTree text tree
  pub checked : Checked tree (Ok typed)

-- ---- the first rule that the text breaks
abbrev pub IsFault : List ℕ → Fault → Type 0
IsFault text faults.TooLong = most_bytes < length text
IsFault text (faults.Encoding at) = LexStops text (lex_stops.Encoding at)
IsFault text (faults.Lexical kind at) = LexStops text (lex_stops.Lexical kind at)
IsFault text (faults.TooManyTokens at) = LexStops text (lex_stops.TooManyTokens at)
IsFault text (faults.Syntax at) = HasSyntaxFault text at
IsFault text (faults.TooDeep at) = NestsTooDeep text at
IsFault text (faults.Typing kind at) = HasTypeFault text (faults.Typing kind at)
IsFault text (faults.TooWide at) = HasTypeFault text (faults.TooWide at)
IsFault text (faults.Late at global) = HasTypeFault text (faults.Late at global)
IsFault text faults.Unbuilt = ⊥

-- the place lies in a text that is short enough, or at its end
abbrev pub LiesIn : List ℕ → ℕ → Type 0
LiesIn text at = (at ≤ length text) × (length text ≤ most_bytes)

abbrev pub IsPlaced : List ℕ → Fault → Type 0
IsPlaced text faults.TooLong = Unit {0}
IsPlaced text (faults.Encoding at) = LiesIn text at
IsPlaced text (faults.Lexical kind at) = LiesIn text at
IsPlaced text (faults.TooManyTokens at) = LiesIn text at
IsPlaced text (faults.Syntax at) = LiesIn text at
IsPlaced text (faults.TooDeep at) = LiesIn text at
IsPlaced text (faults.Typing kind at) = LiesIn text at
IsPlaced text (faults.TooWide at) = LiesIn text at
IsPlaced text (faults.Late at global) = LiesIn text at × LiesIn text global
IsPlaced text faults.Unbuilt = Unit {0}

-- The text has this fault; want of memory may be answered of any text.
abbrev pub Stops : List ℕ → CompileStop → Type 0
Stops text (stops.Refused fault) = IsFault text fault × IsPlaced text fault
Stops text stops.NoMemory = Unit {0}

-- The tree of the text, or its fault.
abbrev pub Parses : List ℕ → Result Tree CompileStop → Type 0
Parses text (Ok tree) = HasTree text tree
Parses text (Err stop) = Stops text stop

-- The typed tree of the text, or its fault.
abbrev pub Types : List ℕ → Result Typed CompileStop → Type 0
Types text (Ok typed) = HasTyped text typed
Types text (Err stop) = Stops text stop

-- a fault of names and types that has its places in the text
abbrev pub IsPlacedType : List ℕ → Fault → Type 0
IsPlacedType text (faults.Typing kind at) = LiesIn text at
IsPlacedType text (faults.TooWide at) = LiesIn text at
IsPlacedType text (faults.Late at global) = LiesIn text at × LiesIn text global
IsPlacedType text fault = ⊥

-- what is answered where this fault is told of a tree, if any is
abbrev pub Refuses : List ℕ → Option Fault → CompileStop → Type 0
Refuses text f (stops.Refused fault) = (f ≡ Some fault) × IsPlacedType text fault
Refuses text f stops.NoMemory = Unit {0}

-- why a text has no tokens, as a refusal
abbrev pub lexical_of : LexStop → CompileStop
lexical_of (lex_stops.Encoding at) = stops.Refused (faults.Encoding at)
lexical_of (lex_stops.Lexical kind at) = stops.Refused (faults.Lexical kind at)
lexical_of (lex_stops.TooManyTokens at) = stops.Refused (faults.TooManyTokens at)
lexical_of lex_stops.NoMemory = stops.NoMemory

-- why a text has no tree, as a refusal
abbrev pub syntactic_of : ParseStop → CompileStop
syntactic_of (parse_stops.Syntax at) = stops.Refused (faults.Syntax at)
syntactic_of (parse_stops.TooDeep at) = stops.Refused (faults.TooDeep at)
syntactic_of parse_stops.NoMemory = stops.NoMemory
