-- What the declarations of a tree settle to is one.
use Rattle.std.proofs.Common.{◌≡◌, ℕ, List, [], map, sym, ap, ap₂, subst, ◌∙◌, is_some}
use Rattle.std.proofs.Props.{props}
use mathlib.Core.HLevel.{is_prop→PathP}
use Rattle.sx_tree.specs.declared.declarations.Item.{Item}
use Rattle.sx_types.specs.declared.types.Class.{Class}
use Rattle.sx_types.specs.declared.types.FunctionType.{FunctionType}
use Rattle.sx_types.specs.declared.types.Structure.{Structure}
use Rattle.sx_types.specs.declared.types.Types.{Types}
use Rattle.sx_types.specs.Words.{AreCounted}
use Rattle.sx_outline.specs.declared.outline.ItemNodes.{ItemNodes}
use Rattle.sx_tables.specs.declared.names.SpecialNames.{SpecialNames}
use Rattle.sx_settle.specs.Settled.{settling}
use Rattle.sx_check_decl.specs.declared.items.Settled.{Settled}
use Rattle.sx_check_decl.specs.Checked.{AreSecond, AreTypes, IsSettled, IsSettledWith, outline, settled_declared, settled_with}
use Rattle.sx_check_decl.specs.Fields.{structure_faults}
use Rattle.sx_one_answer.proofs.Measured.{holders_once, measured_once}

counted_once : (ss : List Structure) → IsProp (AreCounted ss)
counted_once ss = hlevel props

same_types : (x y : Types) → x.structures ≡ y.structures → x.classes ≡ y.classes → x.functions ≡ y.functions → x ≡ y
same_types x y p q r =
    λ i. record { structures = p i; classes = q i; functions = r i; counted = is_prop→PathP (λ j. AreCounted (p j)) (λ j. counted_once (p j)) x.counted y.counted i }

one_types : (ss : List Structure) (cs : List Class) (fs : List FunctionType) (x y : Types) → AreTypes ss cs fs x → AreTypes ss cs fs y → x ≡ y
one_types ss cs fs x y (m, c, f) (n, d, g) = same_types x y (measured_once ss x.structures y.structures m n) (c ∙ sym d) (f ∙ sym g)

same_settled : (x y : Settled) → settling x.declarations x.stops ≡ settling y.declarations y.stops → x.structures ≡ y.structures → x.classes ≡ y.classes → x ≡ y
same_settled x y e p q = λ i. record { declarations = (e i).declarations; structures = p i; classes = q i; stops = (e i).stops }

settled_by : (s : SpecialNames) (types : Types) (nodes : ℕ) (is : List Item) (ns : List ItemNodes) (x y : Settled) → IsSettledWith s types nodes is ns x → IsSettledWith s types nodes is ns y → x ≡ y
settled_by s types nodes is ns x y (hs, told, p, q, e) (ks, also, u, v, f) =
    let holders : hs ≡ ks = holders_once types.structures hs ks told also in
    let structures : x.structures ≡ y.structures = p ∙ ap (λ bs. structure_faults types.structures bs types.structures) holders ∙ sym u in
    let classes : x.classes ≡ y.classes = q ∙ sym v in
    let settles : settling x.declarations x.stops ≡ settling y.declarations y.stops =
    e ∙ ap₂ (λ a b. settled_with s (map is_some a) (map is_some b) types nodes is ns) structures classes ∙ sym f in
    same_settled x y settles structures classes

pub settled_once : (s : SpecialNames) (is : List Item) (x y : Settled) → IsSettled s is x → IsSettled s is y → x ≡ y
settled_once s is x y (first, second, a, b, h) (once, twice, c, d, k) =
    let early : first ≡ once = one_types _ _ _ first once a c in
    let again : AreSecond is (settled_declared s is [] [] once).declarations (outline s is).functions second = subst (λ types. AreSecond is (settled_declared s is [] [] types).declarations (outline s is).functions second) early b in
    let late : second ≡ twice = one_types _ _ _ second twice again d in
    settled_by s twice (outline s is).nodes is (outline s is).items x y (subst (λ types. IsSettledWith s types (outline s is).nodes is (outline s is).items x) late h) k
