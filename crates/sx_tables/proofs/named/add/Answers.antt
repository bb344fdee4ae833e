use Rattle.std.proofs.Common.{rules, ◌≡◌, ◌∙◌, ap, sym, nat_eq, None}
use Rattle.indexmap.proofs.CallerLemmas.{insert_entry-new}
use Rattle.sx_scope.specs.Tables.{entry, unless_there}
use Rattle.sx_tables.proofs.named.add.Goals as goal

pub returns-in-Ok : goal.returns-in-Ok
returns-in-Ok c =
    let none : entry c.args.types.now.entries c.args.name ≡ None = search rules in
    c.in-Ok.ensures.entries ∙ insert_entry-new nat_eq c.args.types.now c.args.name c.args.ty none ∙ sym (ap (λ o. unless_there o c.args.name c.args.ty c.args.types.now.entries) none)
