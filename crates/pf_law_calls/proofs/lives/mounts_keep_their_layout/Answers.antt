use Rattle.pf_law_calls.proofs.Layouts.{mounts_lie}
use Rattle.pf_law_calls.proofs.lives.mounts_keep_their_layout.Goals as goal

pub returns : goal.returns
returns c = λ layout v told m. (mounts_lie layout v told m).lies
