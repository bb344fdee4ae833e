use Rattle.std.proofs.Common.{arith, subst}
use Rattle.sx_lexer.specs.Found.{IsSpelling}
use Rattle.sx_lexer.specs.declared.texts.Spelling.TheVariants as spellings
use Rattle.sx_lexer.proofs.Enclosed.{multiline_fault, open_fault, escape_fault, text_token}
use Rattle.sx_lexer.proofs.next.text.Goals as goal

pub returns-then-is_multiline : goal.returns-then-is_multiline
returns-then-is_multiline c = (
  multiline_fault c.args.start.rest.now c.args.behind.rest.now c.requires.begins c.requires.follows.next c.if-is_multiline.ensures,
  omega arith,
)

pub returns-then-not-is_closed : goal.returns-then-not-is_closed
returns-then-not-is_closed c = (
  open_fault c.args.start.rest.now c.args.behind.rest.now c.requires.begins c.requires.follows.next c.if-is_multiline.ensures c.if-not-is_closed.ensures,
  omega arith,
)

pub returns-in-Text : goal.returns-in-Text
returns-in-Text c =
    let h : IsSpelling c.args.behind.rest.now (spellings.Text c.in-Text.value c.in-Text.end) = subst (IsSpelling c.args.behind.rest.now) c.in-Text.is c.in_ok-value.ensures in (
      text_token c.args.start.rest.now c.args.behind.rest.now c.requires.begins c.requires.follows.next c.in-Text.end.rest.now c.in-Text.value.items c.if-is_multiline.ensures h.0,
      omega (arith, h.1, c.requires.follows.shorter),
    )

pub returns-in-Bad : goal.returns-in-Bad
returns-in-Bad c =
    let h : IsSpelling c.args.behind.rest.now (spellings.Bad c.in-Bad.place) = subst (IsSpelling c.args.behind.rest.now) c.in-Bad.is c.in_ok-value.ensures in (
      escape_fault c.args.start.rest.now c.args.behind.rest.now c.requires.begins c.requires.follows.next c.in-Bad.place.rest.now c.if-is_multiline.ensures c.if-not-is_closed.ensures h.0,
      omega (arith, h.1, c.requires.follows.shorter),
    )
