-- Calls of mounts, one at a time, of whatever mounts.
use Rattle.std.specs.Prelude.{◌≡◌, ◌⊎◌, ℕ, ◌<◌, List, [], ◌∷◌, ◌++◌, Option, Some, None}
use Rattle.std.specs.Option.{option_to_list}
use Rattle.pf_base.specs.declared.asks.Ask.{Ask}
use Rattle.pf_base.specs.declared.calls.Call.TheVariants.{Read}
use Rattle.pf_volume.specs.Volumes.{Extent}
use Rattle.pf_tree_tables.specs.Names.{Path}
use Rattle.pf_tree_tables.specs.Tables.{Tables, new_tables}
use Rattle.pf_tree.specs.Trees.{Data}
use Rattle.pf_tree.specs.Calls.{FileCall}
use Rattle.pf_file_calls.specs.declared.answers.CallAnswer.{CallAnswer}
use Rattle.pf_file_calls.specs.declared.calls.Pending.{Pending}
use Rattle.pf_law_plans.specs.Exchanges.{Exchange}
use Rattle.pf_law_contents.specs.Contents.{contents_after}
use Rattle.pf_law_contents.specs.Going.{AreCalls, CallAsks, GoOneByOne, IsReadOf, IsRefusal, Went, call_done, done_of, exchanges_of, tree_of}
use Rattle.pf_journal.specs.declared.layouts.Layout.{Layout}
use Rattle.pf_mount.specs.declared.work.MountNext.{MountNext}
use Rattle.pf_mount.specs.declared.work.MountNext.TheVariants.{Done}
use Rattle.pf_law_calls.specs.Since.{called}
use Rattle.pf_law_calls.specs.Answering.{next_by}
use Rattle.pf_law_calls.specs.Exchanges.{exchanged, pends_in}
use Rattle.pf_law_calls.specs.Lives.{Begins, Input, Life, MountTold, all_opened, lived, lives}
use Rattle.pf_law_calls.specs.Trees.{data_blocks}

-- no mount has a call that is pending: each that has begun has ended. (One of a mount that was killed meanwhile never does)
abbrev pub HaveEnded : Layout → Extent → List MountTold → Type 0
HaveEnded layout v told = (m : ℕ) → m < 16 → (lives layout v told m).mount.files.pending ≡ None

-- each call began when all before it had ended
abbrev pub AreOneAtATime : Layout → Extent → List MountTold → Type 0
AreOneAtATime layout v told =
    (before after : List MountTold) (m : ℕ) (call : FileCall) → told ≡ before ++ record { mount = m; input = Begins call } ∷ after → HaveEnded layout v before

-- all calls are of one mount
abbrev pub AreOfOneMount : List MountTold → (m : ℕ) → Type 0
AreOfOneMount told m =
    (before after : List MountTold) (n : ℕ) (call : FileCall) → told ≡ before ++ record { mount = n; input = Begins call } ∷ after → n ≡ m

-- the pending call, where it ends and is not refused
abbrev pub done_by : Option Pending → Option MountNext → Option FileCall
done_by (Some p) (Some (Done answer)) = call_done p.call answer
done_by q next = None

abbrev pub done_from : (ℕ → Life) → List MountTold → List FileCall
done_from lives [] = []
done_from lives (t ∷ told) =
    let x = (lives t.mount).mount in option_to_list (done_by (called x t.input) (next_by x t.input)) ++ done_from (lived lives t) told

-- the calls that have ended and were not refused, in the order in which they ended
abbrev pub done_calls : Layout → Extent → List MountTold → List FileCall
done_calls layout v told = done_from (all_opened layout v) told

-- what all mounts asked and were answered at their ports for file data, in the order of the answers, where these asks are pending
abbrev pub data_from : (ℕ → Life) → (last : ℕ → Option Ask) → List MountTold → List Exchange
data_from lives last [] = []
data_from lives last (t ∷ told) =
    exchanged (lives t.mount).mount (last t.mount) t.input
    ++ data_from (lived lives t) (λ m. pends_in m (lives m).mount (last m) t) told

abbrev pub data_in : Layout → Extent → List MountTold → List Exchange
data_in layout v told = data_from (all_opened layout v) (λ m. None) told

-- A call of mount m ended with this answer. The calls before it went one after another on a new volume, each to its end, and those of them that
-- were not refused are `done`; then this one went on the tables that they left. All that was asked and answered for them is `all`
pub record WentOneByOne (v : Extent) (d : Data) (m : ℕ) (done : List FileCall) (q : Option Pending) (all : List Exchange)
    (answer : CallAnswer) : Type 0 where
  pub calls : List Went
  pub are : AreCalls calls
  pub left : Tables
  pub go : GoOneByOne v d (new_tables d.blocks) calls left
  pub done_are : done_of calls ≡ done
  pub call : Pending
  pub was : q ≡ Some call
  pub next : Tables
  pub came : List Exchange
  pub asks : CallAsks v d m call left next came answer
  pub data_are : exchanges_of calls ++ came ≡ all

-- refused, or the file's contents after these calls, from one place on up to another or to the file's end
abbrev pub GivesContents : Data → (done : List FileCall) → Path → (offset count : ℕ) → CallAnswer → Type 0
GivesContents d done p offset count answer = IsRefusal answer ⊎ IsReadOf (tree_of d done) (contents_after done) p offset count answer

-- Where calls are one at a time, a read of a file that ends is refused, or gives the file's contents after the calls that have ended before
abbrev pub ReadsGiveContents : Layout → Extent → List MountTold → Type 0
ReadsGiveContents layout v told =
    (before after : List MountTold) (m : ℕ) (input : Input) (call : Pending) (p : Path) (offset count : ℕ) (answer : CallAnswer)
    → told ≡ before ++ record { mount = m; input = input } ∷ after
    → next_by (lives layout v before m).mount input ≡ Some (Done answer)
    → called (lives layout v before m).mount input ≡ Some call
    → call.call ≡ Read p offset count
    → AreOneAtATime layout v (before ++ record { mount = m; input = input } ∷ [])
    → GivesContents (data_blocks layout v) (done_calls layout v before) p offset count answer
