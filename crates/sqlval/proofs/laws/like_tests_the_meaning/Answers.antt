use Rattle.sqlval.proofs.LikeMeaning.{is_like-from_Fits, Fits-from_is_like}
use Rattle.sqlval.proofs.laws.like_tests_the_meaning.Goals as goal

pub returns : goal.returns
returns c = λ pattern text. (λ fits. Fits-from_is_like pattern text fits, λ fits. is_like-from_Fits fits)
