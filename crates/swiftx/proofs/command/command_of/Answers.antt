use Rattle.std.proofs.Common.{◌∷◌, [], sym, ap, ◌∙◌, refl}
use Rattle.std.specs.Prelude.{string_bytes}
use Rattle.swiftx.specs.Words.{texts}
use Rattle.swiftx.proofs.CommandLines.{two_words, short_some, short_none, long_some, long_none, no_limit, four_texts}
use Rattle.swiftx.proofs.command.command_of.Goals as goal

pub returns-in-len2-clause-some : goal.returns-in-len2-clause-some
returns-in-len2-clause-some c =
    let is = two_words c.args.words.now c.name-item.result c.file-item.result c.in-len2.len_at_least c.in-len2.len_below c.name-item.is c.file-item.is ∙ ap (λ x. x ∷ string_bytes c.file-item.result ∷ []) (sym c.deref.ensures) ∙ ap (λ x. c.deref.result.now ∷ x ∷ []) (sym c.deref-in-len2.ensures) in
    short_some (texts c.args.words.now) c.deref.result.now c.deref-in-len2.result.now c.with_name.result is c.with_name.ensures.some

pub returns-in-len2-clause-none : goal.returns-in-len2-clause-none
returns-in-len2-clause-none c =
    let is = two_words c.args.words.now c.name-item.result c.file-item.result c.in-len2.len_at_least c.in-len2.len_below c.name-item.is c.file-item.is ∙ ap (λ x. x ∷ string_bytes c.file-item.result ∷ []) (sym c.deref.ensures) ∙ ap (λ x. c.deref.result.now ∷ x ∷ []) (sym c.deref-in-len2.ensures) in
    short_none (texts c.args.words.now) c.deref.result.now c.deref-in-len2.result.now c.with_name.result is c.with_name.ensures.none

pub returns-in-Some-clause-some : goal.returns-in-Some-clause-some
returns-in-Some-clause-some c =
    let is = four_texts c.args.words.now c.name-item-then-words-lt5.result c.file-item-then-words-lt5.result c.option-item.result c.number-item.result c.deref-in-Some.result.now c.deref-in-Some-2.result.now c.as_str.result.now c.deref-in-len4.result.now c.in-len4.len_at_least c.in-len4.len_below c.name-item-then-words-lt5.is c.file-item-then-words-lt5.is c.option-item.is c.number-item.is c.deref-in-Some.ensures c.deref-in-Some-2.ensures c.as_str.ensures.value c.deref-in-len4.ensures c.if-ne.ensures in
    long_some (texts c.args.words.now) c.deref-in-Some.result.now c.deref-in-Some-2.result.now c.deref-in-len4.result.now c.in-Some.steps c.with_file.result is c.in-Some.ensures.some c.with_file.ensures.some

pub returns-in-Some-clause-none : goal.returns-in-Some-clause-none
returns-in-Some-clause-none c =
    let is = four_texts c.args.words.now c.name-item-then-words-lt5.result c.file-item-then-words-lt5.result c.option-item.result c.number-item.result c.deref-in-Some.result.now c.deref-in-Some-2.result.now c.as_str.result.now c.deref-in-len4.result.now c.in-len4.len_at_least c.in-len4.len_below c.name-item-then-words-lt5.is c.file-item-then-words-lt5.is c.option-item.is c.number-item.is c.deref-in-Some.ensures c.deref-in-Some-2.ensures c.as_str.ensures.value c.deref-in-len4.ensures c.if-ne.ensures in
    long_none (texts c.args.words.now) c.deref-in-Some.result.now c.deref-in-Some-2.result.now c.deref-in-len4.result.now c.in-Some.steps c.with_file.result is c.in-Some.ensures.some c.with_file.ensures.none

pub returns-in-None-clause-none : goal.returns-in-None-clause-none
returns-in-None-clause-none c = λ command h.
    let is = four_texts c.args.words.now c.name-item-then-words-lt5.result c.file-item-then-words-lt5.result c.option-item.result c.number-item.result (string_bytes c.name-item-then-words-lt5.result) (string_bytes c.file-item-then-words-lt5.result) c.as_str.result.now c.deref-in-len4.result.now c.in-len4.len_at_least c.in-len4.len_below c.name-item-then-words-lt5.is c.file-item-then-words-lt5.is c.option-item.is c.number-item.is refl refl c.as_str.ensures.value c.deref-in-len4.ensures c.if-ne.ensures in
    no_limit (texts c.args.words.now) (string_bytes c.name-item-then-words-lt5.result) (string_bytes c.file-item-then-words-lt5.result) c.deref-in-len4.result.now command is c.in-None.ensures.none h
