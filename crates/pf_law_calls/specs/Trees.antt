-- The user's tree, by the calls that transactions name.
use Rattle.std.specs.Prelude.{ℕ, ◌/◌, ◌<◌, ◌^◌, ◌==◌, if◌then◌else◌, List, length, Option, Some, None}
use Rattle.std.specs.List.{filter_map}
use Rattle.pf_volume.specs.Volumes.{Extent, size_of}
use Rattle.pf_tree.specs.Calls.{FileCall}
use Rattle.pf_tree.specs.Trees.{Data, Tree}
use Rattle.pf_law_plans.specs.Named as named
use Rattle.pf_law_plans.specs.Numbered.{call_numbered}
use Rattle.pf_journal.specs.declared.layouts.Layout.{Layout}
use Rattle.pf_journal.specs.Layouts.{layout_of}
use Rattle.pf_law_calls.specs.Lives.{Begins, Input, MountTold}

abbrev pub call_in_input : Input → Option FileCall
call_in_input (Begins call) = Some call
call_in_input input = None

abbrev pub call_begun : (m : ℕ) → MountTold → Option FileCall
call_begun m t = if m == t.mount then call_in_input t.input else None

-- the calls of mount m, in the order in which they began
abbrev pub calls_of : List MountTold → (m : ℕ) → List FileCall
calls_of told m = filter_map (call_begun m) told

-- the call of mount m with this number, in what was told
abbrev pub call_named : List MountTold → (m number : ℕ) → Option FileCall
call_named told m number = call_numbered (calls_of told m) number

-- the blocks of file data, where the layout has them
abbrev pub data_blocks : Layout → Extent → Data
data_blocks layout v = record { first = (layout_of layout).first; blocks = size_of v / 8 }

-- the root alone, changed by the calls that the values name, one after another
abbrev pub tree_after : Layout → Extent → List MountTold → (values : List (List ℕ)) → Tree
tree_after layout v told values = named.tree_after_calls (data_blocks layout v) (calls_of told) values

-- the number of each call has a spelling in four bytes
abbrev pub AreFewCalls : List MountTold → Type 0
AreFewCalls told = (m : ℕ) → m < 16 → length (calls_of told m) < 2 ^ 32
