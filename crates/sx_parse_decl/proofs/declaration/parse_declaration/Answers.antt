use Rattle.std.proofs.Common.{◌≡◌, ◌-◌, length, drop, take, ap, ◌∙◌, arith, List}
use Rattle.sx_grammar.specs.Lexemes.{lexemes}
use Rattle.sx_grammar.specs.declared.lexemes.Lexeme.{Lexeme}
use Rattle.sx_token.specs.declared.kinds.Token.{Token}
use Rattle.sx_token.specs.Sound.{contents}
use Rattle.sx_parse_decl.proofs.Declared.{all_taken, counted}
use Rattle.sx_parse_decl.proofs.declaration.parse_declaration.Goals as goal

pub head_of-requires : goal.head_of-requires
head_of-requires c =
    let a = counted (contents c.args.tokens.now.names.items) c.args.at c.args.tokens.now.list.items c.requires.within in
    let taken : take (length c.deref.result.now - c.args.at) (drop c.args.at c.deref.result.now) ≡ drop c.args.at c.args.tokens.now.list.items = rw c.deref.ensures.value (all_taken c.args.at c.args.tokens.now.list.items c.requires.within) in
    let e : length c.as_slice.result.now ≡ length (lexemes (contents c.args.tokens.now.names.items) (drop c.args.at c.args.tokens.now.list.items)) = ap (λ (x : List Lexeme). length x) (c.as_slice.ensures.value ∙ c.in-Ok.ensures) ∙ ap (λ (x : List Token). length (lexemes (contents c.args.tokens.now.names.items) x)) taken in
    let t = c.len-total.ensures in omega (arith, a, e, t)
