use Rattle.std.proofs.Common.{◌≡◌, ◌++◌, ◌∷◌, [], ◌∙◌, ap, sym, nat_eq, None, subst}
use Rattle.std.specs.Map.{lookup}
use Rattle.indexmap.proofs.CallerLemmas.{insert_entry-new}
use Rattle.sx_scope.specs.Tables.{entry, unless_there}
use Rattle.sx_scope.proofs.table.Table.add.Goals.{in-Ok, in-Err}
use Rattle.sx_scope.proofs.table.Table.add.Goals as goal

pub returns-after-insert : goal.returns-after-insert
returns-after-insert g c =
    let none : entry c.args.self.now c.args.name ≡ None = sym c.get.ensures ∙ c.in-None.is in
    elim c.match-insert.branch [
      | in-Ok w ↦
          let done = rw w.in-Ok.is at c.insert.ensures.entries in
          rw w.result-is (done ∙ insert_entry-new nat_eq c.self.inside.entries c.args.name c.args.value (subst (λ es. lookup (nat_eq c.args.name) es ≡ None) (sym c.self.view_is) none) ∙ ap (λ es. es ++ (c.args.name, c.args.value) ∷ []) c.self.view_is ∙ sym (ap (λ o. unless_there o c.args.name c.args.value c.args.self.now) none))
      | in-Err w ↦ rw w.result-is tt
    ]
