use Rattle.std.proofs.Common.{◌≡◌, List, ℕ, map, refl, ap, ap₂, subst, ◌∙◌}
use Rattle.sx_check_decl.specs.Locals.{AreInOrder, variables_of}
use Rattle.sx_check_decl.specs.Program.{bytes_of}
use Rattle.sx_check_decl.proofs.checking.typed_tree.Goals as goal

pub returns-clause-typed : goal.returns-clause-typed
returns-clause-typed c =
    let functions : c.in_ok-functions.functions ≡ c.args.walk.literals = c.in_ok-functions.ensures.functions ∙ c.into_items.ensures in
    record {
      types_are = refl;
      structures = refl;
      classes = refl;
      globals = refl;
      functions = functions;
      top = refl;
      initialisers = c.new.ensures;
      locals = subst (λ (ns : List ℕ). AreInOrder ns c.in_ok-locals.locals) (ap₂ variables_of c.as_slice-5.ensures (c.as_slice-6.ensures ∙ functions)) c.in_ok-locals.ensures;
      texts = c.in_ok-texts.ensures ∙ ap (map bytes_of) c.as_slice.ensures.value;
      names = c.in_ok-names.ensures ∙ ap (map bytes_of) c.as_slice-2.ensures.value;
      lines = c.in_ok-lines.ensures.items ∙ c.as_slice-3.ensures.value;
      places = c.in_ok-places.ensures.items ∙ c.as_slice-4.ensures.value;
    }
