-- Structures and classes: each is a node, and takes those of its members.
use Rattle.std.proofs.Common.{◌≡◌, ℕ, suc, ◌+◌, ◌≤◌, Bool, not, cond, List, [], ◌∷◌, ◌++◌, Option, Some, None, length, length-append, map, refl, sym, arith}
use Rattle.sx_span.specs.declared.places.Node.{Node}
use Rattle.sx_types.specs.declared.types.Ty.{Ty}
use Rattle.sx_tree.specs.declared.declarations.Member.{Member}
use Rattle.sx_tree.specs.declared.declarations.Member.TheVariants as members
use Rattle.sx_tree.specs.declared.declarations.Subscript.{Subscript}
use Rattle.sx_tree.specs.declared.declarations.TypeDeclaration.{TypeDeclaration as WrittenDeclaration}
use Rattle.sx_tree.specs.declared.nodes.FaultOf.TheVariants as faults_of
use Rattle.sx_tree.specs.Nodes.{accessor_places, all, member_places, parameter_places, subscript_places, type_declaration_places, type_places}
use Rattle.sx_typed.specs.declared.program.Function.{Function}
use Rattle.sx_scope.specs.declared.declarations.Declarations.{Declarations}
use Rattle.sx_scope.specs.declared.stop.TypeKind.TheVariants as kind
use Rattle.sx_scope.specs.declared.stop.TypeStop.{TypeStop}
use Rattle.sx_scope.specs.declared.walk.Walk.{Walk}
use Rattle.sx_scope.specs.Verdict.{Verdict, typed, Judging, ◌▷◌, both, both_by, need, moved}
use Rattle.sx_scope.specs.Walks.{advanced, node}
use Rattle.sx_scope.specs.WrittenTypes.{is_void}
use Rattle.sx_heads.specs.declared.parameters.HeadParameter.{HeadParameter}
use Rattle.sx_heads.specs.declared.parameters.ParameterList.TheVariants as lists
use Rattle.sx_heads.specs.Heads.{checked_head}
use Rattle.sx_heads.specs.Variables.{is_computed}
use Rattle.sx_functions.specs.declared.accessing.OwnNames.{OwnNames}
use Rattle.sx_functions.specs.Accessors.{run_accessors}
use Rattle.sx_functions.specs.Functions.{function}
use Rattle.sx_functions.specs.Places.{left, new_name}
use Rattle.sx_members.specs.declared.members.NamedProperty.{NamedProperty}
use Rattle.sx_members.specs.declared.types.TypeFault.{TypeFault}
use Rattle.sx_members.specs.declared.types.TypeFault.TheVariants as faults
use Rattle.sx_members.specs.Members.{named_property, property_made, HeadParts, result_fits, subscript_head, known_of_head, parameters_of, no_property, subscript_parts, subscript, Before, behind_member, member, with_property, property_added, run_members, nothing_before, unfaulted, unfaulted_name, type_parts, initialiser, type_made, type_declaration}
use Rattle.sx_members.specs.Variables.{accessed, variable}
use Rattle.sx_order.specs.Order.{Lies, Start, starting, since, Stands, Spans, Stays, Anything}
use Rattle.sx_order.proofs.Growing.{reaches-first, stands-added}
use Rattle.sx_order.proofs.Spans.{▷-spans, behind-adds, sooner, both-spans, both_by-spans, run-spans, spans-to, earlier, anything, fault-stays, typed-first, typed-stays, need-stays, moved-spans}
use Rattle.sx_order_code.specs.Code.{CodeSpans}
use Rattle.sx_order_items.specs.Stops.{MemberStops, MembersStop}
use Rattle.sx_order_items.specs.Written.{IsNoInitialiser, NoInitialisersIn}
use Rattle.sx_order_items.proofs.Accessors.{run_accessors-spans}
use Rattle.sx_order_items.proofs.Functions.{function-takes, left-next, new_name-stays}
use Rattle.sx_order_items.proofs.Heads.{checked_head-takes}
use Rattle.sx_order.proofs.Own.{own_both-spans}
use Rattle.sx_order_items.proofs.Variables.{variable-spans}

-- ---- subscripts
pub result_fits-stays : {lo hi : ℕ} (n : Node) (h : List HeadParameter × Ty) → Lies lo hi n → Stays lo hi Anything (result_fits n h)
result_fits-stays n h i = need-stays (not (is_void h.1)) kind.Mismatch n (typed h) i (typed-stays h tt)

pub subscript_head-spans : (d : Declarations) (another : Bool) (n : Node) (s : Subscript) (lo hi : ℕ) (w : Walk) → n.0 ≡ lo → w.next ≡ suc lo →
    hi ≡ length (all (map parameter_places s.parameters) ++ type_places s.result) + suc lo → Spans (since w) lo hi Anything (subscript_head d another n s w)
subscript_head-spans d another n s lo hi w at e sum =
    let one : Verdict (Unit {0}) = need (not another) kind.Duplicate n (typed tt) w in
    let alone : Spans (since w) lo (suc lo) Anything one = need-stays (not another) kind.Duplicate n (typed tt) (omega (arith, at), omega (arith, at)) (typed-stays tt tt) w (reaches-first w e) in
    let head : Judging (List HeadParameter × Ty) = λ u. checked_head d lists.OfSubscript s.parameters (Some s.result) u ▷ result_fits n in
    let behind : (u : Walk) → u.next ≡ suc lo → Spans (since u) lo hi Anything (head u) =
    λ u g. let v : Verdict (List HeadParameter × Ty) = checked_head d lists.OfSubscript s.parameters (Some s.result) u in
    ▷-spans v (result_fits n) (earlier lo v (omega arith) (spans-to v (sym sum) (checked_head-takes d lists.OfSubscript s.parameters (Some s.result) (suc lo) u g))) (λ h _. result_fits-stays n h (omega (arith, at), omega (arith, at, sum))) in
    anything (both one head) (own_both-spans one head (omega (arith, sum)) alone behind)

-- ---- what a structure or class fails by at its name
pub unfaulted-stays : {lo hi : ℕ} (f : Option TypeFault) (n : Node) → Lies lo hi n → Stays lo hi Anything (unfaulted f n)
unfaulted-stays None n i w e = typed-stays tt tt w e
unfaulted-stays (Some faults.Recursive) n i w e = fault-stays kind.RecursiveStruct n i w e
unfaulted-stays (Some faults.Wide) n i w e = record { holds = (e.stands, (i.0, i.1, tt)) }

-- the initialiser comes before the functions of the members
pub type_made-adds : {lo hi : ℕ} (t : Ty) (n : Node) (before : ℕ) (x : Unit {0} × List NamedProperty) (fs : List Function) (m : ℕ) (w : Walk) → n.0 ≡ m → before ≡ length fs →
    Stands (starting fs (suc m)) hi w → Spans (starting fs m) lo hi Anything (type_made t n before x w)
type_made-adds t n before (u, ps) fs m w at e s = record { holds = (stands-added m before (initialiser t n ps) w at e s, tt) }

module _ (d : Declarations) (code : CodeSpans d) (names : OwnNames) (stops : List (Option TypeStop)) where
  pub subscript_parts-spans : (owner : Option Ty) (another : Bool) (n : Node) (s : Subscript) (j a lo hi : ℕ) (w : Walk) → n.0 ≡ lo → w.next ≡ suc lo →
      j ≡ length (all (map parameter_places s.parameters) ++ type_places s.result) + suc lo → a ≡ length (all (map (accessor_places faults_of.Accessor s.span.start) s.accessors)) → hi ≡ a + j →
      Spans (since w) lo hi Anything (subscript_parts d names owner another n s w)
  subscript_parts-spans owner another n s j a lo hi w at e ej ea sum =
      let goes : Option HeadParts → Judging (Unit {0}) = λ o u. run_accessors d names (accessed owner n (known_of_head o) (parameters_of o) (length w.locals)) (typed tt u) s.accessors in
      anything (both_by (subscript_head d another n s w) goes)
      (both_by-spans (subscript_head d another n s w) goes (omega (arith, ej)) (omega (arith, sum)) (subscript_head-spans d another n s lo j w at e ej)
      (λ o u g. run_accessors-spans d code names (accessed owner n (known_of_head o) (parameters_of o) (length w.locals)) faults_of.Accessor s.span.start s.accessors a j j hi (typed tt u) ea (omega arith) sum (typed-first tt u g tt)))

  pub subscript-spans : (owner : Option Ty) (another : Bool) (s : Subscript) (lo hi : ℕ) (w : Walk) → w.next ≡ lo → hi ≡ length (subscript_places faults_of.Accessor s) + lo → Spans (since w) lo hi Anything (subscript d names owner another s w)
  subscript-spans owner another s lo hi w e sum =
      let parameter_s : List ℕ = all (map parameter_places s.parameters) in
      let result_s : List ℕ = type_places s.result in
      let accessor_s : List ℕ = all (map (accessor_places faults_of.Accessor s.span.start) s.accessors) in
      let whole : length (parameter_s ++ (result_s ++ accessor_s)) ≡ length parameter_s + length (result_s ++ accessor_s) = length-append parameter_s (result_s ++ accessor_s) in
      let behind : length (result_s ++ accessor_s) ≡ length result_s + length accessor_s = length-append result_s accessor_s in
      let before : length (parameter_s ++ result_s) ≡ length parameter_s + length result_s = length-append parameter_s result_s in
      let u : Walk = advanced 1 w in
      let v : Verdict (HeadParts × Unit {0}) = subscript_parts d names owner another (node w.next) s u in
      let parts : Spans (since u) lo hi Anything v =
      subscript_parts-spans owner another (node w.next) s (length (parameter_s ++ result_s) + suc lo) (length accessor_s) lo hi u e (omega (arith, e)) refl refl (omega (arith, sum, whole, behind, before)) in
      sooner w.literals (1 + w.next) w.next (subscript d names owner another s w) (omega arith) (▷-spans (moved (left u) v) no_property (moved-spans (left u) v (left-next u) parts) (λ x _. typed-stays None tt))

  -- ---- members; no text gives a written initialiser
  pub member-spans : (t : Ty) (b : Before) (m : Member) (lo hi : ℕ) (w : Walk) → w.next ≡ lo → hi ≡ length (member_places faults_of.Accessor m) + lo → MemberStops stops lo b m → IsNoInitialiser m → Spans (since w) lo hi Anything (member d names stops t b m w)
  member-spans t b (members.Property v) lo hi w e sum i x =
      ▷-spans (variable d names stops (Some t) b.names None b.given v w) (property_made v) (variable-spans d code names stops faults_of.Accessor (Some t) b.names None b.given v lo hi w e sum i)
      (λ y _. typed-stays (cond (is_computed v.accessors) None (Some (named_property v y))) tt)
  member-spans t b (members.Method f) lo hi w e sum i x =
      let v : Verdict (Unit {0}) = function d (Some t) b.names f w in
      ▷-spans v no_property (spans-to v (sym sum) (function-takes d code (Some t) b.names f lo w e)) (λ y _. typed-stays None tt)
  member-spans t b (members.Subscript s) lo hi w e sum i x = subscript-spans (Some t) b.subscript s lo hi w e sum
  member-spans t b (members.Initialiser j) lo hi w e sum i x = absurd x

  pub run_members-spans : {old : Start} (t : Ty) (ms : List Member) (b : Before) (lo mid hi : ℕ) (v : Verdict (List NamedProperty)) → lo ≤ mid → hi ≡ length (all (map (member_places faults_of.Accessor) ms)) + mid → Spans old lo mid Anything v →
      MembersStop stops mid b ms → NoInitialisersIn ms → Spans old lo hi Anything (run_members d names stops t v b ms)
  run_members-spans t [] b lo mid hi v l sum h i x = spans-to v (omega (arith, sum)) h
  run_members-spans {old = old} t (m ∷ ms) b lo mid hi v l sum h i x =
      let own : List ℕ = member_places faults_of.Accessor m in
      let others : List ℕ = all (map (member_places faults_of.Accessor) ms) in
      let whole : length (own ++ others) ≡ length own + length others = length-append own others in
      let here : Spans old lo (length own + mid) Anything (both v (member d names stops t b m) ▷ property_added) =
      run-spans Anything v (member d names stops t b m) property_added l (omega arith) h (λ w e. member-spans t b m mid (length own + mid) w e refl i.0 x.0) (λ p _. typed-stays (with_property p.0 p.1) tt) in
      run_members-spans t ms (behind_member m b) lo (length own + mid) hi (both v (member d names stops t b m) ▷ property_added) (omega arith) (omega (arith, sum, whole)) here i.1 x.1

  -- ---- a structure or class
  pub type_parts-spans : (seen : List ℕ) (f : Option TypeFault) (k : ℕ) (t : Ty) (n : Node) (x : WrittenDeclaration) (lo hi : ℕ) (w : Walk) → n.0 ≡ lo → w.next ≡ suc lo →
      hi ≡ length (all (map (member_places faults_of.Accessor) x.members)) + suc lo → MembersStop stops (suc lo) (nothing_before k) x.members → NoInitialisersIn x.members →
      Spans (since w) lo hi Anything (type_parts d names stops seen f k t n x w)
  type_parts-spans seen f k t n x lo hi w at e sum i j =
      let name : Verdict (Unit {0}) = new_name d seen x.name.number n w in
      let own : Spans (since w) lo (suc lo) Anything (name ▷ unfaulted_name f n) =
      ▷-spans name (unfaulted_name f n) (new_name-stays d seen x.name.number n (omega (arith, at), omega (arith, at)) w (reaches-first w e)) (λ u _. unfaulted-stays f n (omega (arith, at), omega (arith, at))) in
      let all_members : Judging (List NamedProperty) = λ u. run_members d names stops t (typed [] u) (nothing_before k) x.members in
      anything (both (name ▷ unfaulted_name f n) all_members)
      (both-spans (name ▷ unfaulted_name f n) all_members (omega arith) (omega (arith, sum)) own
      (λ u g. run_members-spans t x.members (nothing_before k) (suc lo) (suc lo) hi (typed [] u) (omega arith) sum (typed-first [] u g tt) i j))

  pub type_declaration-spans : (seen : List ℕ) (f : Option TypeFault) (k : ℕ) (t : Ty) (x : WrittenDeclaration) (lo hi : ℕ) (w : Walk) → w.next ≡ lo → hi ≡ length (type_declaration_places faults_of.Accessor x) + lo →
      MembersStop stops (suc lo) (nothing_before k) x.members → NoInitialisersIn x.members → Spans (since w) lo hi Anything (type_declaration d names stops seen f k t x w)
  type_declaration-spans seen f k t x lo hi w e sum i j =
      let v : Verdict (Unit {0} × List NamedProperty) = type_parts d names stops seen f k t (node w.next) x (advanced 1 w) in
      let begins : 1 + w.next ≡ suc w.next = omega arith in
      behind-adds w.next (advanced 1 w) v (type_made t (node w.next) (length w.literals)) begins (type_parts-spans seen f k t (node w.next) x lo hi (advanced 1 w) e (omega (arith, e)) (omega (arith, sum)) i j)
      (λ y _ u g. type_made-adds t (node w.next) (length w.literals) y w.literals w.next u refl refl g)
