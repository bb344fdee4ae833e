use Rattle.std.proofs.Common.{◌≡◌, ◌∙◌, ap, List, ℕ, arith, refl}
use Rattle.sx_lexer.specs.Lexis.{lexed}
use Rattle.sx_lexer.specs.Characters.{between}
use Rattle.sx_lexer.specs.Shown.{lexeme_of, with_lexeme, kind_of_piece, token_of}
use Rattle.sx_lexer.proofs.NameLists.{adds_list, adds_names, adds_no_text}
use Rattle.sx_lexer.proofs.gathering.Gathered.add_piece.Goals as goal

pub returns-clause-adds : goal.returns-clause-adds
returns-clause-adds c =
    let s = c.args.from.rest.now in
    let r = c.args.to.rest.now in
    let l = lexed (lexeme_of c.args.piece) s r c.args.before.line c.args.before.space in
    let old : List (List ℕ) = c.args.self.now.names in
    let new : List (List ℕ) = c.kind_of.new.names in
    let d : new ≡ with_lexeme old (lexeme_of c.args.piece) (between s r) = c.in_ok-kind.ensures.names ∙ ap (λ w. with_lexeme old (lexeme_of c.args.piece) w) c.between.ensures in
    let k : c.in_ok-kind.kind ≡ kind_of_piece new c.args.piece (between s r) = c.in_ok-kind.ensures.kind ∙ ap (λ w. kind_of_piece new c.args.piece w) c.between.ensures in
    record {
      holds = λ ls h. record {
        list = adds_list c.args.end ls l old new c.args.self.now.list.items c.push.new.self.items c.token.result h.list h.names d (c.token.ensures ∙ ap (λ x. token_of x c.args.end s r c.args.before.line c.args.before.space) k) c.in_ok-push.ensures.items;
        texts = h.texts ∙ adds_no_text ls l c.args.piece refl;
        names = adds_names ls l old new h.names d;
      };
      list = omega (arith, c.in_ok-push.ensures.len);
      texts = omega arith;
      names = c.in_ok-kind.ensures.few;
    }
