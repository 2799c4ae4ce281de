use Rattle.pf_script.proofs.Memory.{exact_gives}
use Rattle.pf_script.proofs.place.place_later.Goals as goal

pub returns-in-Settle : goal.returns-in-Settle
returns-in-Settle c = rw c.in-Settle.is (exact_gives _ _ (c.place_settle.ensures c.args.named))

pub returns-in-Kill : goal.returns-in-Kill
returns-in-Kill c = rw c.in-Kill.is (exact_gives _ _ (c.place_kill.ensures c.args.named))

pub returns-in-Call : goal.returns-in-Call
returns-in-Call c = rw c.in-Call.is (c.place_call.ensures c.args.named)

pub returns-in-ShowMount : goal.returns-in-ShowMount
returns-in-ShowMount c = rw c.in-ShowMount.is (exact_gives _ _ (c.place_show_mount.ensures c.args.named))
