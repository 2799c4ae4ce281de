use Rattle.pf_law_calls.proofs.Journals.{list_is_whole}
use Rattle.pf_law_calls.proofs.lives.whole_lists.Goals as goal

pub returns : goal.returns
returns c = λ layout v told list position value all can registers is past decided. list_is_whole layout v told can all registers list is position value past decided
