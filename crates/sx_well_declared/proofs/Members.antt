-- Members, and structures and classes with their members, are judged typed exactly where the rules say it.
use Rattle.std.proofs.Common.{◌≡◌, ◌∙◌, ℕ, Bool, true, false, List, [], ◌∷◌, length, map, Option, Some, None, cond, refl, sym, ap, subst}
use Rattle.sx_span.specs.declared.places.Node.{Node}
use Rattle.sx_tree.specs.declared.declarations.Member.{Member}
use Rattle.sx_tree.specs.declared.declarations.Member.TheVariants as members
use Rattle.sx_tree.specs.declared.declarations.TypeDeclaration.{TypeDeclaration as WrittenDeclaration}
use Rattle.sx_tree.specs.declared.declarations.Variable.{Variable}
use Rattle.sx_types.specs.declared.types.Ty.{Ty}
use Rattle.sx_typed.specs.declared.program.TypeDeclaration.{TypeDeclaration}
use Rattle.sx_scope.specs.declared.declarations.Declarations.{Declarations}
use Rattle.sx_scope.specs.declared.stop.TypeKind.TheVariants as kind
use Rattle.sx_scope.specs.declared.stop.TypeStop.{TypeStop}
use Rattle.sx_scope.specs.declared.walk.Walk.{Walk}
use Rattle.sx_scope.specs.Verdict.{Verdict, typed, depends, Judging, ◌▷◌, both}
use Rattle.sx_scope.specs.Walks.{node, advanced}
use Rattle.sx_bodies.specs.Literals.{with_literal}
use Rattle.sx_heads.specs.Variables.{is_computed}
use Rattle.sx_functions.specs.declared.accessing.OwnNames.{OwnNames}
use Rattle.sx_functions.specs.Functions.{function}
use Rattle.sx_functions.specs.Places.{is_new, new_name}
use Rattle.sx_members.specs.declared.members.NamedProperty.{NamedProperty}
use Rattle.sx_members.specs.declared.types.TypeFault.{TypeFault}
use Rattle.sx_members.specs.declared.types.TypeFault.TheVariants as faults
use Rattle.sx_members.specs.declared.variables.TypedVariable.{TypedVariable}
use Rattle.sx_members.specs.Members.{Before, behind_member, initialiser, member, named_property, no_property, nothing_before, property_added, property_made, property_of, run_members, type_declaration, type_made, type_parts, unfaulted, unfaulted_name, with_property}
use Rattle.sx_members.specs.Variables.{variable}
use Rattle.sx_well_typed.proofs.Verdicts.{First, typed-as, not-typed, same-walk, then-typed, then-inverted, both-typed, both_by-inverted, need-typed, need-inverted, added-first, added-inverted}
use Rattle.sx_well_declared.specs.Members.{MemberDeclared, MembersDeclared, TypeDeclared}
use Rattle.sx_well_declared.proofs.Conditions.{beside}
use Rattle.sx_well_declared.proofs.Functions.{function-told, function-derived}
use Rattle.sx_well_declared.proofs.Subscripts.{subscript-told, subscript-derived}
use Rattle.sx_well_declared.proofs.Variables.{variable-told, variable-derived}

module _ (d : Declarations) (names : OwnNames) (stops : List (Option TypeStop)) (t : Ty) where
  -- ---- a member
  abbrev property_at : Before → Variable → Walk → Verdict TypedVariable
  property_at b x w = variable d names stops (Some t) b.names None b.given x w

  pub member-told : (b : Before) (m : Member) (w : Walk) (o : Option NamedProperty) (v : Walk) → MemberDeclared d names t b m w o v → member d names stops t b m w ≡ typed o v
  member-told b _ _ _ _ (MemberDeclared.stored x y w v own h) =
      then-typed (property_at b x w) (property_made x) y v (typed (Some (named_property x y)) v) (variable-told d names stops (Some t) b.names None b.given x w y v h)
      (ap (λ c. typed (cond c None (Some (named_property x y))) v) own)
  member-told b _ _ _ _ (MemberDeclared.computed x y w v own h) =
      then-typed (property_at b x w) (property_made x) y v (typed None v) (variable-told d names stops (Some t) b.names None b.given x w y v h)
      (ap (λ c. typed (cond c None (Some (named_property x y))) v) own)
  member-told b _ _ _ _ (MemberDeclared.method f w v h) =
      then-typed (function d (Some t) b.names f w) no_property tt v (typed None v) (function-told d (Some t) b.names f w v h) refl
  member-told b _ _ _ _ (MemberDeclared.subscript s w v h) = subscript-told d names (Some t) b.subscript s w v h

  property-derived : (b : Before) (x : Variable) (w : Walk) (y : TypedVariable) (u : Walk) (o : Option NamedProperty) (v : Walk) (c : Bool) → is_computed x.accessors ≡ c → property_at b x w ≡ typed y u →
      typed (cond c None (Some (named_property x y))) u ≡ typed o v → MemberDeclared d names t b (members.Property x) w o v
  property-derived b x w y u o v true own h made =
      typed-as (λ o v. MemberDeclared d names t b (members.Property x) w o v) None o u v made
      (MemberDeclared.computed x y w u own (variable-derived d names stops (Some t) b.names None b.given x w y u h))
  property-derived b x w y u o v false own h made =
      typed-as (λ o v. MemberDeclared d names t b (members.Property x) w o v) (Some (named_property x y)) o u v made
      (MemberDeclared.stored x y w u own (variable-derived d names stops (Some t) b.names None b.given x w y u h))

  pub member-derived : (b : Before) (m : Member) (w : Walk) (o : Option NamedProperty) (v : Walk) → member d names stops t b m w ≡ typed o v → MemberDeclared d names t b m w o v
  member-derived b (members.Property x) w o v h =
      let (y, u, first, made) = then-inverted (property_at b x w) (property_made x) o v h in
      property-derived b x w y u o v (is_computed x.accessors) refl first made
  member-derived b (members.Method f) w o v h =
      let (y, u, first, made) = then-inverted (function d (Some t) b.names f w) no_property o v h in
      typed-as (λ o v. MemberDeclared d names t b (members.Method f) w o v) None o u v made
      (MemberDeclared.method f w u (function-derived d (Some t) b.names f w u first))
  member-derived b (members.Subscript s) w o v h =
      let (none, rule) = subscript-derived d names (Some t) b.subscript s w o v h in
      subst (λ o. MemberDeclared d names t b (members.Subscript s) w o v) none (MemberDeclared.subscript s w v rule)
  member-derived b (members.Initialiser i) w o v h = not-typed (MemberDeclared d names t b (members.Initialiser i) w o v) (depends w) o v refl h

  -- ---- members one after another
  pub members-told : (b : Before) (ms : List Member) (before : List NamedProperty) (w : Walk) (ps : List NamedProperty) (v : Walk) → MembersDeclared d names t b ms before w ps v → run_members d names stops t (typed before w) b ms ≡ typed ps v
  members-told _ _ _ _ _ _ (MembersDeclared.members_end b ps w) = refl
  members-told _ _ _ _ _ _ (MembersDeclared.members_more b m ms before ps o w w₁ v one more) =
      ap (λ r. run_members d names stops t (r ▷ property_added) (behind_member m b) ms)
      (both-typed (typed before w) (member d names stops t b m) before w o w₁ refl (member-told b m w o w₁ one))
      ∙ members-told (behind_member m b) ms (with_property before o) w₁ ps v more

  members-first : (r : Verdict (List NamedProperty)) (b : Before) (ms : List Member) (ps : List NamedProperty) (v : Walk) → run_members d names stops t r b ms ≡ typed ps v → First r
  members-first r b [] ps v h = (ps, v, h)
  members-first r b (m ∷ ms) ps v h =
      let (x, w, one) = members-first (both r (member d names stops t b m) ▷ property_added) (behind_member m b) ms ps v h in
      added-first r (member d names stops t b m) property_added x w one

  pub members-derived : (b : Before) (ms : List Member) (before : List NamedProperty) (w : Walk) (ps : List NamedProperty) (v : Walk) → run_members d names stops t (typed before w) b ms ≡ typed ps v → MembersDeclared d names t b ms before w ps v
  members-derived b [] before w ps v h = typed-as (λ ps v. MembersDeclared d names t b [] before w ps v) before ps w v h (MembersDeclared.members_end b before w)
  members-derived b (m ∷ ms) before w ps v h =
      let (x, w₂, one) = members-first (both (typed before w) (member d names stops t b m) ▷ property_added) (behind_member m b) ms ps v h in
      let (o, w₁, first, made) = added-inverted before w (member d names stops t b m) property_added x w₂ one in
      MembersDeclared.members_more b m ms before ps o w w₁ v (member-derived b m w o w₁ first)
      (members-derived (behind_member m b) ms (with_property before o) w₁ ps v (ap (λ r. run_members d names stops t r (behind_member m b) ms) (made ∙ sym one) ∙ h))

-- ---- a structure or class
unfaulted-inverted : (f : Option TypeFault) (n : Node) (w : Walk) (u : Unit {0}) (v : Walk) → unfaulted f n w ≡ typed u v → (f ≡ None) × (w ≡ v)
unfaulted-inverted None n w u v h = (refl, same-walk tt u w v h)
unfaulted-inverted (Some faults.Recursive) n w u v h = not-typed ((Some faults.Recursive ≡ None) × (w ≡ v)) (unfaulted (Some faults.Recursive) n w) u v refl h
unfaulted-inverted (Some faults.Wide) n w u v h = not-typed ((Some faults.Wide ≡ None) × (w ≡ v)) (unfaulted (Some faults.Wide) n w) u v refl h

module _ (d : Declarations) (names : OwnNames) (stops : List (Option TypeStop)) (seen : List ℕ) (f : Option TypeFault) (k : ℕ) (t : Ty) (x : WrittenDeclaration) where
  abbrev named_at : Node → Walk → Verdict (Unit {0})
  named_at n u = new_name d seen x.name.number n u ▷ unfaulted_name f n

  abbrev members_at : Judging (List NamedProperty)
  members_at u = run_members d names stops t (typed [] u) (nothing_before k) x.members

  pub type-told : (w : Walk) (y : TypeDeclaration) (v : Walk) → TypeDeclared d names seen f k t x w y v → type_declaration d names stops seen f k t x w ≡ typed y v
  type-told _ _ _ (TypeDeclared.a_type ps w v new none all) =
      let n : Node = node w.next in
      let u : Walk = advanced 1 w in
      let named : named_at n u ≡ typed tt u =
      then-typed (new_name d seen x.name.number n u) (unfaulted_name f n) tt u (typed tt u)
      (need-typed (is_new d seen x.name.number) kind.Duplicate n (typed tt) u (typed tt u) new refl) (ap (λ o. unfaulted o n u) none) in
      let parts : type_parts d names stops seen f k t n x u ≡ typed (beside ps) v =
      both-typed (named_at n u) members_at tt u ps v named (members-told d names stops t (nothing_before k) x.members [] u ps v all) in
      then-typed (type_parts d names stops seen f k t n x u) (type_made t n (length u.literals)) (beside ps) v
      (typed (record { node = n; stored = map property_of ps }) (with_literal (length w.literals) (initialiser t n ps) v)) parts refl

  pub type-derived : (w : Walk) (y : TypeDeclaration) (v : Walk) → type_declaration d names stops seen f k t x w ≡ typed y v → TypeDeclared d names seen f k t x w y v
  type-derived w y v h =
      let n : Node = node w.next in
      let u : Walk = advanced 1 w in
      let (z, w₂, parts, made) = then-inverted (type_parts d names stops seen f k t n x u) (type_made t n (length u.literals)) y v h in
      let (w₁, named, all) = both_by-inverted (named_at n u) (λ _. members_at) z w₂ parts in
      let (o, s, first, sure) = then-inverted (new_name d seen x.name.number n u) (unfaulted_name f n) z.0 w₁ named in
      let (new, same) = need-inverted (is_new d seen x.name.number) kind.Duplicate n (typed tt) u o s first in
      let (none, stays) = unfaulted-inverted f n s z.0 w₁ sure in
      let at : u ≡ w₁ = same-walk tt o u s same ∙ stays in
      typed-as (λ y v. TypeDeclared d names seen f k t x w y v)
      (record { node = n; stored = map property_of z.1 }) y (with_literal (length w.literals) (initialiser t n z.1) w₂) v made
      (TypeDeclared.a_type z.1 w w₂ new none (members-derived d names stops t (nothing_before k) x.members [] u z.1 w₂ (ap members_at at ∙ all)))
