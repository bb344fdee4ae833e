use Rattle.std.proofs.Common.{◌≡◌, ◌∙◌, sym, subst, ℕ, List, nat_eq, rules, IsTrue}
use Rattle.std.specs.List.{starts_with}
use Rattle.sx_typed.specs.Storage.{IsPrefix}
use Rattle.sx_typed.proofs.Prefixes.{prefix_of, starts}
use Rattle.sx_typed.proofs.storage.is_prefix.Goals as goal

tested : (fields longer : List ℕ) → IsPrefix fields longer → IsTrue (starts_with nat_eq longer fields)
tested fields longer p = subst (λ (l : List ℕ). IsTrue (starts_with nat_eq l fields)) (sym p.1) (starts fields p.0)

pub returns : goal.returns
returns c =
    let value : c.starts_with.result ≡ starts_with nat_eq c.args.longer.now c.args.fields.now = search rules in
    (λ h. prefix_of c.args.fields.now c.args.longer.now (sym value ∙ h), λ p. value ∙ tested c.args.fields.now c.args.longer.now p)
