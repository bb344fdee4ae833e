use Rattle.std.proofs.Common.{◌≡◌, ◌≤◌, ◌+◌, ◌∙◌, ap, sym, subst, length}
use Rattle.sx_lexer.specs.Names.{with_name, index_of}
use Rattle.sx_lexer.proofs.NameKeys.{names_in, insert_key-names, position-names, index_of-with_name, length-with_name}
use Rattle.sx_lexer.proofs.names.Names.index_of.Goals as goal

new_names : (c : goal.In_ok-index) → names_in c.insert_full.new.self.keys ≡ with_name c.args.self.now c.args.name.now
new_names c = ap names_in c.in_ok-index.ensures.keys ∙ (insert_key-names c.args.name c.self.inside.seen.keys ∙ ap (λ n. with_name n c.args.name.now) c.self.view_is)

pub returns-clause-names : goal.returns-clause-names
returns-clause-names c = new_names c

pub returns-clause-index : goal.returns-clause-index
returns-clause-index c =
    c.in_ok-index.ensures.index ∙ (position-names c.args.name c.self.inside.seen.keys ∙ (ap (λ n. index_of n c.args.name.now) c.self.view_is
    ∙ (sym (index_of-with_name c.args.self.now c.args.name.now) ∙ sym (ap (λ n. index_of n c.args.name.now) (new_names c)))))

pub returns-clause-few : goal.returns-clause-few
returns-clause-few c = subst (λ n. length n ≤ length c.args.self.now + 1) (sym (new_names c)) (length-with_name c.args.self.now c.args.name.now)
