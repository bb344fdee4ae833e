use Rattle.std.proofs.Common.{◌∙◌, ap, List, ℕ, length, arith, refl}
use Rattle.sx_token.specs.declared.kinds.Kind.TheVariants as kinds
use Rattle.sx_lexer.specs.Lexis.{lexed}
use Rattle.sx_lexer.specs.Shown.{quoted_of, token_of}
use Rattle.sx_lexer.proofs.NameLists.{adds_list, adds_names, adds_text, count_texts}
use Rattle.sx_lexer.proofs.gathering.Gathered.add_text.Goals as goal

pub returns-clause-adds : goal.returns-clause-adds
returns-clause-adds c =
    let s = c.args.from.rest.now in
    let r = c.args.to.rest.now in
    let l = lexed (quoted_of c.args.value.items) s r c.args.before.line c.args.before.space in
    let names : List (List ℕ) = c.args.self.now.names in
    record {
      holds = λ ls h. record {
        list = adds_list c.args.end ls l names names c.args.self.now.list.items c.push-2.new.self.items c.token.result h.list h.names refl (c.token.ensures ∙ ap (λ x. token_of (kinds.Text x) c.args.end s r c.args.before.line c.args.before.space) (ap length c.as_slice-texts.ensures.value ∙ (count_texts (λ v. v.items) ls c.args.self.now.texts.items h.texts))) c.in_ok-push-2.ensures.items;
        texts = adds_text (λ v. v.items) ls l c.args.value c.args.self.now.texts.items c.push.new.self.items refl h.texts c.in_ok-push.ensures.items;
        names = adds_names ls l names names h.names refl;
      };
      list = omega (arith, c.in_ok-push-2.ensures.len);
      texts = omega (arith, c.in_ok-push.ensures.len);
      names = omega arith;
    }
