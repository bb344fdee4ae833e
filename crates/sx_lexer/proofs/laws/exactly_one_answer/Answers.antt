use Rattle.std.proofs.Common.{true}
use Rattle.sx_lexer.specs.Lexis.{behind_mark}
use Rattle.sx_lexer.proofs.Once.{lexes_once, faults_once, lexes_or_faults}
use Rattle.sx_lexer.proofs.Total.{some_answer}
use Rattle.sx_lexer.proofs.laws.exactly_one_answer.Goals as goal

pub returns : goal.returns
returns c = record {
  at_least_one = some_answer;
  one_list = λ cs ts us x y. lexes_once true true (behind_mark cs) ts x us y;
  one_kind = λ cs p q k m x y. (faults_once (behind_mark cs) p k x q m y).second;
  one_place = λ cs p q k m x y. (faults_once (behind_mark cs) p k x q m y).first;
  not_both = λ cs p k ts x y. lexes_or_faults true true (behind_mark cs) ts x p k y;
}
