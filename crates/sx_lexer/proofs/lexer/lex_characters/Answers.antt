use Rattle.std.proofs.Common.{arith, length, ◌≡◌, ◌∙◌, sym, ap, subst, chars, IsUtf8, refl, encode_utf8_all}
use Rattle.std.proofs.lemmas.Str.{encodes-chars}
use Rattle.sx_lexer.specs.Lexis.{behind_mark}
use Rattle.sx_lexer.proofs.Sound.{tokens_sound}
use Rattle.sx_lexer.proofs.Finish.{stop_answers, finish_answers}
use Rattle.sx_lexer.proofs.lexer.lex_characters.Goals as goal

pub returns-in-Ok : goal.returns-in-Ok
returns-in-Ok c =
    let u : IsUtf8 c.args.text.now = subst IsUtf8 c.requires.same c.utf8.characters in
    let e : c.behind_mark.result.rest.now ≡ behind_mark (chars c.args.text.now) = c.behind_mark.ensures.rest ∙ ap behind_mark (c.as_slice.ensures.value ∙ (c.in_ok-chars.ensures ∙ ap chars c.requires.same)) in
    finish_answers c.args.text.now c.behind_mark.result.rest.now (length c.args.text.now) c.in-Ok.gathered c.in_ok-lines.lines u e refl c.in-Ok.ensures.ok c.in_ok-lines.ensures c.finish.result c.finish.ensures.tokens c.finish.ensures.stop

pub returns-in-Err : goal.returns-in-Err
returns-in-Err c =
    let u : IsUtf8 c.args.text.now = subst IsUtf8 c.requires.same c.utf8.characters in
    let e : c.behind_mark.result.rest.now ≡ behind_mark (chars c.args.text.now) = c.behind_mark.ensures.rest ∙ ap behind_mark (c.as_slice.ensures.value ∙ (c.in_ok-chars.ensures ∙ ap chars c.requires.same)) in
    stop_answers c.args.text.now c.behind_mark.result.rest.now (length c.args.text.now) c.in-Err.stop u e refl c.in-Err.ensures.stop

pub invariant_of-whole : goal.invariant_of-whole
invariant_of-whole c =
    let u : IsUtf8 c.args.text.now = subst IsUtf8 c.requires.same c.utf8.characters in
    record { same = sym (ap encode_utf8_all (c.as_slice.ensures.value ∙ (c.in_ok-chars.ensures ∙ ap chars c.requires.same)) ∙ encodes-chars c.args.text.now u) }

pub finish-requires : goal.finish-requires
finish-requires c =
    let a = c.behind_mark.ensures.fewer_bytes in
    let b = ap length c.behind_mark.result.same in
    let d = c.requires.within in
    tokens_sound c.args.text.now c.behind_mark.result.rest.now (length c.args.text.now) c.in-Ok.gathered c.in_ok-lines.lines.items c.in-Ok.ensures.ok (omega (arith, a, b)) d c.in_ok-lines.ensures
