use Rattle.std.proofs.Common.{◌∙◌, inl, inr, sym, ap, ℕ, List, ◌++◌}
use Rattle.sx_typed.specs.Storage.{Overlap, Part}
use Rattle.sx_typed.proofs.Prefixes.{parted}
use Rattle.sx_typed.proofs.storage.different_fields_never_conflict.Goals as goal

apart : (fields others : List ℕ) → Part fields others → Overlap fields others → ⊥
apart fields others p (inl longer) =
    parted p.common p.field p.other p.more p.rest longer.0 p.differ (sym p.other_path ∙ longer.1 ∙ ap (λ (l : List ℕ). l ++ longer.0) p.path)
apart fields others p (inr longer) =
    parted p.common p.other p.field p.rest p.more longer.0 (λ e. p.differ (sym e)) (sym p.path ∙ longer.1 ∙ ap (λ (l : List ℕ). l ++ longer.0) p.other_path)

pub returns : goal.returns
returns c = λ a b static parts conflict. elim conflict.2 as (λ _. ⊥) [ inl dynamic ↦ static dynamic | inr overlap ↦ apart a.fields b.fields parts overlap ]
