use Rattle.sqlval.proofs.LikeMeaning.{is_like-plain, is_like-itself}
use Rattle.sqlval.proofs.laws.like_without_wildcards_is_equality.Goals as goal

pub returns : goal.returns
returns c = λ pattern text plain. (λ fits. is_like-plain pattern text plain fits, λ same. rw same (is_like-itself pattern plain))
