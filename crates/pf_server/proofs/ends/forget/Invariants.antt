use Rattle.std.proofs.Common.{◌≡◌, length}
use Rattle.pf_server.proofs.ends.forget.Given as goal

abbrev pub invariant-loop : goal.invariant-loop
invariant-loop l = l.replies.rooms ≡ l.initial.replies.rooms

abbrev pub decreases-loop : goal.decreases-loop
decreases-loop l = length l.replies.answers
