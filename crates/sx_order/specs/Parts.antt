-- How many nodes the parts of a tree take.
use Rattle.std.specs.Prelude.{◌≡◌, ℕ, suc, ◌+◌, List, [], ◌∷◌, Option, Some, None}
use Rattle.sx_scope.specs.declared.walk.Asked.{Asked}
use Rattle.sx_scope.specs.declared.walk.Place.{Place}
use Rattle.sx_scope.specs.declared.walk.Use.{Use}
use Rattle.sx_calls.specs.Parts.{JudgedExpr, JudgedLink, JudgedArgument, JudgedPart, JudgedStatement, JudgedElse}
use Rattle.sx_order.specs.Order.{Takes, Anywhere, Within}

-- An expression takes so many nodes, whatever is asked of it, and where it is typed its node is one of them.
pub record SpansExpr (n : ℕ) (e : JudgedExpr) : Type 0 where
  pub takes : (p : Place) (q : Asked) (u : Use) → Takes n Within (e.value p q u)

-- expressions one after another
abbrev pub SpanExprs : ℕ → List JudgedExpr → Type 0
SpanExprs n [] = n ≡ 0
SpanExprs n (e ∷ es) = (k : ℕ) × (j : ℕ) × (n ≡ k + j) × SpansExpr k e × SpanExprs j es

-- the operands behind the first
abbrev pub SpanLinks : ℕ → List JudgedLink → Type 0
SpanLinks n [] = n ≡ 0
SpanLinks n (l ∷ ls) = (k : ℕ) × (j : ℕ) × (n ≡ k + j) × SpansExpr k l.operand × SpanLinks j ls

-- an argument is a node, and has those of its value
abbrev pub SpanArguments : ℕ → List JudgedArgument → Type 0
SpanArguments n [] = n ≡ 0
SpanArguments n (a ∷ as_) = (k : ℕ) × (j : ℕ) × (n ≡ suc k + j) × SpansExpr k a.value × SpanArguments j as_

-- a closure literal behind a call, as an argument
abbrev pub SpansTrailing : ℕ → Option JudgedExpr → Type 0
SpansTrailing n None = n ≡ 0
SpansTrailing n (Some c) = (k : ℕ) × (n ≡ suc k) × SpansExpr k c

-- what stands in a part behind an operand, without the nodes that start at the operand
abbrev pub SpansPart : ℕ → JudgedPart → Type 0
SpansPart n (JudgedPart.Member x c) = SpansTrailing n c
SpansPart n (JudgedPart.Index is) = SpanExprs n is
SpansPart n (JudgedPart.Call as_ c) = (k : ℕ) × (j : ℕ) × (n ≡ k + j) × SpanArguments k as_ × SpansTrailing j c

abbrev pub SpanParts : ℕ → List JudgedPart → Type 0
SpanParts n [] = n ≡ 0
SpanParts n (p ∷ ps) = (k : ℕ) × (j : ℕ) × (n ≡ k + j) × SpansPart k p × SpanParts j ps

-- the expression that a statement is alone, which stands behind its node
abbrev pub SpansAlone : ℕ → Option JudgedExpr → Type 0
SpansAlone n None = Unit {0}
SpansAlone n (Some e) = (k : ℕ) × (n ≡ suc k) × SpansExpr k e

-- a statement
pub record SpansStatement (n : ℕ) (s : JudgedStatement) : Type 0 where
  pub takes : (p : Place) → Takes n Anywhere (s.value p)
  pub alone : SpansAlone n s.alone

abbrev pub SpanStatements : ℕ → List JudgedStatement → Type 0
SpanStatements n [] = n ≡ 0
SpanStatements n (s ∷ ss) = (k : ℕ) × (j : ℕ) × (n ≡ k + j) × SpansStatement k s × SpanStatements j ss

-- what follows the block of an `if`: a block is a node
abbrev pub SpansElse : ℕ → JudgedElse → Type 0
SpansElse n JudgedElse.Absent = n ≡ 0
SpansElse n (JudgedElse.Block ss) = (k : ℕ) × (n ≡ suc k) × SpanStatements k ss
SpansElse n (JudgedElse.ElseIf s) = SpansStatement n s
