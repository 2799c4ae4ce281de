-- What a planned call becomes, on tables that stand for a tree: the transaction names the call, follows it and is read again of its spelling.
use Rattle.std.proofs.Common.{◌≡◌, ◌≢◌, ℕ, ◌*◌, ◌/◌, ◌<◌, ◌≤◌, ◌^◌, List, [], ◌∷◌, length, Option, Some, None, arith, sym, ap, subst, ◌∙◌}
use Rattle.std.specs.Option.{unwrap_or}
use Rattle.std.proofs.Math.Nat.{mul-le-mul}
use Rattle.pf_entry.specs.Lists.{Every}
use Rattle.pf_volume.specs.Volumes.{Extent, IsVolume, size_of}
use Rattle.pf_tree_tables.specs.declared.changes.Change.{Change}
use Rattle.pf_tree_tables.specs.declared.changes.Txn.{Txn}
use Rattle.pf_tree_tables.specs.Tables.{Tables, applied}
use Rattle.pf_tree.specs.Standing.{PlanFollows, IsCall, TablesStandFor}
use Rattle.pf_tree.specs.Trees.{Data, Tree, changed}
use Rattle.pf_txn.specs.Fields.{IsTyped, IsTypedChange}
use Rattle.pf_txn.specs.Reading.{txn_in}
use Rattle.pf_txn.specs.Spelling.{spell_txn}
use Rattle.pf_txn.proofs.TxnLaws.{txn_again, txn_found}
use Rattle.pf_file_calls.specs.Calls.{planned, planned_by, planned_with}
use Rattle.pf_file_calls.specs.declared.calls.Pending.{Pending}
use Rattle.pf_file_calls.specs.declared.calls.Planned.TheVariants.{Proposes}
use Rattle.pf_file_calls.proofs.PlannedProposals.{follows_as, proposed, spelled_as}
use Rattle.pf_law_plans.specs.Numbered.{tree_with}
use Rattle.pf_law_plans.specs.Spelled.{CanBeSpelled}
use Rattle.pf_law_plans.proofs.ChangeTypes.{changes_typed}

-- a planned transaction names its call
module _ (m : ℕ) (v : Extent) (d : Data) (t : Tables) (p : Pending) (txn : Txn) where
  abbrev pub NamesCall : Type 0
  NamesCall = (txn.mount ≡ m) × (txn.number ≡ p.number)

  with_changes_names : (cs : List Change) → planned_with m v t p cs ≡ Proposes txn → NamesCall
  with_changes_names [] e = cc
  with_changes_names (c ∷ cs) e =
      let same : record { mount = m; number = p.number; changes = c ∷ cs } ≡ txn = cc in
      (sym (ap (λ (x : Txn). x.mount) same), sym (ap (λ (x : Txn). x.number) same))

  by_refusal_names : (r : Option ℕ) → planned_by m v d t p r ≡ Proposes txn → NamesCall
  by_refusal_names (Some refused) e = cc
  by_refusal_names None e = with_changes_names _ e

  pub planned_names : planned m v d t p ≡ Proposes txn → NamesCall
  planned_names e = by_refusal_names _ e

-- the tables after changes that follow the tree
followed : (d : Data) (t : Tables) (cs : List Change) (tree : Tree) (after : Option Tree) → TablesStandFor d t tree → PlanFollows d t cs tree after → TablesStandFor d (applied t cs) (unwrap_or after tree)
followed d t cs tree None stand follows = subst (λ changes. TablesStandFor d (applied t changes) tree) (sym follows) stand
followed d t cs tree (Some after) stand follows = follows.1

-- the tables stand for the tree after the call
pub call_followed : (m : ℕ) (v : Extent) (d : Data) (t : Tables) (p : Pending) (txn : Txn) (tree : Tree) → TablesStandFor d t tree → IsCall p.call → planned m v d t p ≡ Proposes txn → TablesStandFor d (applied t txn.changes) (tree_with d tree (Some p.call))
call_followed m v d t p txn tree stand place plan = followed d t txn.changes tree (changed d tree p.call) stand (follows_as m v d t p txn tree stand place plan)

-- a planned call that can be spelled
module _ (m : ℕ) (v : Extent) (d : Data) (t : Tables) (p : Pending) (txn : Txn) (tree : Tree) (stand : TablesStandFor d t tree) (few : length t.tags ≤ 4096) (small : m < 16) (low : p.number < 2 ^ 32)
    (spelled : CanBeSpelled p.call) (plan : planned m v d t p ≡ Proposes txn) where
  is_typed : IsTyped txn
  is_typed =
      let names = planned_names m v d t p txn plan in
      let of_call = proposed m v d t p txn plan in record {
        mount = omega (arith, names.0, small);
        number = omega (arith, names.1, low);
        changes = subst (λ cs. Every IsTypedChange cs) (sym of_call.changes_are) (changes_typed d t tree stand few p.call spelled.bytes of_call.fine);
      }

  pub read_again : txn_in (spell_txn txn) ≡ Some txn
  read_again = txn_again txn (spelled_as m v d t p txn (record { root = stand.names.root; sizes = stand.sizes }) stand.places spelled.short plan) is_typed

-- no transaction is spelled by nothing
pub no_spelling : (txn : Txn) → spell_txn txn ≡ [] → ⊥
no_spelling txn e = cc

pub some_value : (value : List ℕ) (txn : Txn) → txn_in value ≡ Some txn → value ≢ []
some_value value txn read none = let found = txn_found value txn read in no_spelling txn (found.spelled ∙ none)

-- tables have one tag for each block: those of a volume, of eight chunks of 4,096 sectors at most, are few
pub few_blocks : (v : Extent) → IsVolume v → size_of v / 8 ≤ 4096
few_blocks v is = let most : v.chunks * v.sectors ≤ 8 * 4096 = mul-le-mul is.few_chunks is.few_sectors in omega (arith, most)
