-- The lines that tell of faults. L:C is the line and the column of a place, each counted from 1; a column counts bytes.
use Rattle.std.specs.Prelude.{ℕ, List, [], ◌∷◌, ◌++◌, codes}
use Rattle.std.specs.Fmt.{decimal}
use Rattle.sx_span.specs.Lines.{line_col_of, line_starts}
use Rattle.sx_span.specs.declared.places.LineCol.{LineCol}
use Rattle.sx_lexer.specs.declared.faults.LexKind.{LexKind}
use Rattle.sx_lexer.specs.declared.faults.LexKind.TheVariants as kinds
use Rattle.sx_scope.specs.declared.stop.TypeKind.{TypeKind}
use Rattle.sx_scope.specs.declared.stop.TypeKind.TheVariants as types
use Rattle.sx_driver.specs.declared.fault.Fault.{Fault}
use Rattle.sx_driver.specs.declared.fault.Fault.TheVariants as faults

-- the word for a kind of lexical fault
unfoldable pub kind_word : LexKind → List ℕ
kind_word kinds.BadNumber = codes "bad-number"
kind_word kinds.BigLiteral = codes "big-literal"
kind_word kinds.BadEscape = codes "bad-escape"
kind_word kinds.OpenString = codes "open-string"
kind_word kinds.MultilineString = codes "multiline-string"
kind_word kinds.UnknownOperator = codes "unknown-operator"
kind_word kinds.OpenComment = codes "open-comment"
kind_word kinds.StrayCharacter = codes "stray-character"

-- the word for a condition on names and types
unfoldable pub type_word : TypeKind → List ℕ
type_word types.UnknownName = codes "unknown-name"
type_word types.Duplicate = codes "duplicate"
type_word types.Mismatch = codes "mismatch"
type_word types.NotAssignable = codes "not-assignable"
type_word types.NotAValue = codes "not-a-value"
type_word types.NotCallable = codes "not-callable"
type_word types.ArgumentCount = codes "argument-count"
type_word types.ArgumentLabel = codes "argument-label"
type_word types.Ampersand = codes "ampersand"
type_word types.EscapingUse = codes "escaping-use"
type_word types.InoutCaptured = codes "inout-captured"
type_word types.MissingReturn = codes "missing-return"
type_word types.RecursiveStruct = codes "recursive-struct"
type_word types.BreakOutside = codes "break-outside"
type_word types.NoContext = codes "no-context"
type_word types.MutatingOnValue = codes "mutating-on-value"
type_word types.NeedsType = codes "needs-type"
type_word types.MissingDefault = codes "missing-default"

-- L:C
abbrev pub line_and_column : LineCol → List ℕ → List ℕ
line_and_column place what = decimal place.line ++ (codes ":" ++ (decimal place.column ++ what))

abbrev pub placed : LineCol → List ℕ → List ℕ
placed place what = codes "error " ++ line_and_column place what

-- a line on a place of the text
abbrev pub line_at : List ℕ → ℕ → List ℕ → List ℕ
line_at text at what = placed (line_col_of (line_starts text) at) what

unfoldable pub fault_line : List ℕ → Fault → List ℕ
fault_line text faults.TooLong = codes "error too-long" ++ 10 ∷ []
fault_line text (faults.Encoding at) = line_at text at (codes " encoding" ++ 10 ∷ [])
fault_line text (faults.Lexical kind at) = line_at text at (codes " lexical " ++ (kind_word kind ++ 10 ∷ []))
fault_line text (faults.TooManyTokens at) = line_at text at (codes " too-many-tokens" ++ 10 ∷ [])
fault_line text (faults.Syntax at) = line_at text at (codes " syntax" ++ 10 ∷ [])
fault_line text (faults.TooDeep at) = line_at text at (codes " too-deep" ++ 10 ∷ [])
fault_line text (faults.Typing kind at) = line_at text at (codes " type " ++ (type_word kind ++ 10 ∷ []))
fault_line text (faults.TooWide at) = line_at text at (codes " too-wide" ++ 10 ∷ [])
fault_line text (faults.Late at global) = line_at text at (codes " late-global with " ++ line_and_column (line_col_of (line_starts text) global) (10 ∷ []))
fault_line text faults.Unbuilt = codes "error unbuilt" ++ 10 ∷ []
