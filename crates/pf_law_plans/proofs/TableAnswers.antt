-- What the answer from tables says of the tree that they stand for, and what the plan of a call does.
use Rattle.std.proofs.Common.{◌≡◌, ◌≢◌, ℕ, ◌&&◌, ◌==◌, Bool, true, false, cond, not, ◌||◌, List, [], ◌∷◌, map, Option, Some, None, is_some, refl, sym, ap, subst, ◌∙◌}
use Rattle.std.specs.List.{list_any}
use Rattle.std.specs.Option.{option_and_then, unwrap_or}
use Rattle.std.specs.Str.{bytes_eq}
use Rattle.std.proofs.lemmas.Bool.{eqb-true}
use Rattle.std.proofs.lemmas.Option.{none-some}
use Rattle.pf_volume.specs.Volumes.{Extent}
use Rattle.pf_tree_tables.specs.declared.changes.Change.{Change}
use Rattle.pf_tree_tables.specs.declared.changes.Txn.{Txn}
use Rattle.pf_tree_tables.specs.declared.tables.DirectoryEntry.{DirectoryEntry}
use Rattle.pf_tree_tables.specs.Names.{Name, Path}
use Rattle.pf_tree_tables.specs.Tables.{Tables, entry_at, entry_found, inode_at, names_in, walk}
use Rattle.pf_tree_tables.proofs.AscendingNames.{names_in_order}
use Rattle.pf_tree.specs.Calls.{FileCall}
use Rattle.pf_base.specs.declared.calls.Call.TheVariants.{Mkdir, Create, Write, Read, Truncate, Rename, Unlink, Rmdir, Stat, List as Lists}
use Rattle.pf_tree.specs.Plans.{changes, found, node_of, tables_sight}
use Rattle.pf_tree.specs.Standing.{PlanFollows, IsCall, TablesStandFor}
use Rattle.pf_tree.specs.Trees.{Data, Dir, File, Node, Tree, at, changed, is_dir, refusal, size_at, tree_sight, walk_refusal, when}
use Rattle.pf_tree.proofs.Law.{first_none, follows, when_none}
use Rattle.pf_tree.proofs.Sights.{Stands, node_from, node_in_some, same_refusal, stands_at as path_stands}
use Rattle.pf_tree.proofs.Walks.{walk_on}
use Rattle.pf_txn.specs.Reading.{txn_in}
use Rattle.pf_file_calls.specs.Calls.{is_txn_of, planned, planned_by, planned_with, size_in}
use Rattle.pf_file_calls.specs.Filling.{read_end}
use Rattle.pf_file_calls.specs.Faults.{call_fault_of}
use Rattle.pf_file_calls.specs.Moving.{names_of, stat_of}
use Rattle.pf_file_calls.specs.declared.answers.CallAnswer.{CallAnswer}
use Rattle.pf_file_calls.specs.declared.answers.CallAnswer.TheVariants.{Fine, Refused}
use Rattle.pf_file_calls.specs.declared.answers.CallFault.{CallFault}
use Rattle.pf_file_calls.specs.declared.calls.Pending.{Pending}
use Rattle.pf_file_calls.specs.declared.calls.Planned.TheVariants.{Refuses, Proposes, Goes}
use Rattle.pf_file_calls.specs.declared.moving.Moved.{Moved}
use Rattle.pf_law_plans.specs.Answering.{AreNamesIn, IsAnswerIn, CallIsRefusedBy}
use Rattle.pf_law_plans.specs.Exchanges.{AreBytesOf, Exchange}
use Rattle.pf_law_plans.proofs.DataSteps.{AnswersOn}
use Rattle.pf_law_plans.proofs.NameOrder.{AllRise, ascending}

-- Names

is_dir_some : (node : Option Node) → is_dir node ≡ true → node ≡ Some Dir
is_dir_some None e = cc
is_dir_some (Some Dir) e = refl
is_dir_some (Some (File size blocks)) e = cc

not_false : (b : Bool) → not b ≡ false → b ≡ true
not_false true e = refl
not_false false e = cc

any_if : (b other : Bool) (inode : ℕ) (found : Option ℕ) → other ≡ is_some found → (b || other) ≡ is_some (cond b (Some inode) found)
any_if true other inode found e = refl
any_if false other inode found e = e

any_found : (rows : List DirectoryEntry) (name : Name) → list_any (λ other. bytes_eq other name) (map (λ (row : DirectoryEntry). row.name) rows) ≡ is_some (entry_found rows name)
any_found [] name = refl
any_found (row ∷ rows) name = any_if (bytes_eq row.name name) (list_any (λ other. bytes_eq other name) (map (λ (r : DirectoryEntry). r.name) rows)) row.inode (entry_found rows name) (any_found rows name)

module _ (d : Data) (t : Tables) (tree : Tree) (stand : TablesStandFor d t tree) (rise : AllRise t.entries) where
  -- the directory of a list that is not refused
  listed_dir : (p : Path) → refusal (tree_sight d tree) (Lists p) ≡ None → Stands t p Dir
  listed_dir p fine =
      let second = (first_none (walk_refusal (at tree) p) (when 84 (not (is_dir (at tree p)))) fine).1 in
      path_stands t p Dir (sym (stand.nodes p) ∙ is_dir_some (at tree p) (not_false (is_dir (at tree p)) (when_none 84 (not (is_dir (at tree p))) second)))

  below_is : (p : Path) (name : Name) (inode : ℕ) → walk t.entries p ≡ Some inode → (entry : Option ℕ) → entry_at t.entries inode name ≡ entry → is_some entry ≡ is_some (at tree (name ∷ p))
  below_is p name inode leads None is =
      ap is_some (sym (stand.nodes (name ∷ p) ∙ ap (option_and_then (node_of t)) (walk_on t.entries name p inode leads ∙ is)))
  below_is p name inode leads (Some i) is =
      let node = node_in_some t.tags i (inode_at t i) (stand.names.in_use inode name i is) in
      sym (ap is_some (stand.nodes (name ∷ p) ∙ node_from t (name ∷ p) i (walk_on t.entries name p inode leads ∙ is) ∙ node.1))

  names_listed : (p : Path) → refusal (tree_sight d tree) (Lists p) ≡ None → AreNamesIn tree p (names_of t p)
  names_listed p fine =
      let dir = listed_dir p fine in
      let rows : found t p ≡ dir.inode = ap (λ i. unwrap_or i 0) dir.leads in record {
        order = names_in_order (names_in t.entries (found t p)) (ascending (names_in t.entries (found t p)) (rise (found t p)));
        all = λ name.
            any_found (names_in t.entries (found t p)) name
            ∙ ap (λ i. is_some (entry_at t.entries i name)) rows
            ∙ below_is p name dir.inode dir.leads (entry_at t.entries dir.inode name) refl;
      }

  pub answered_in : (v : Extent) (came : List Exchange) (call : FileCall) (answer : CallAnswer) → refusal (tree_sight d tree) call ≡ None → AnswersOn v t (size_in t call) came call answer → IsAnswerIn v came t tree call answer
  answered_in v came (Stat p) answer fine is = is ∙ ap stat_of (sym (stand.nodes p))
  answered_in v came (Lists p) answer fine is = (names_of t p, is, names_listed p fine)
  answered_in v came (Read p offset count) answer fine is =
      (is.0, is.1, subst (λ node. AreBytesOf v t came (found t p) offset (read_end (size_at node) offset count) is.0) (sym (stand.nodes p)) is.2)
  answered_in v came (Write p offset byte count) answer fine is = is
  answered_in v came (Truncate p size) answer fine is = is
  answered_in v came (Mkdir p) answer fine is = is
  answered_in v came (Create p) answer fine is = is
  answered_in v came (Rename from to) answer fine is = is
  answered_in v came (Unlink p) answer fine is = is
  answered_in v came (Rmdir p) answer fine is = is

-- a call that changes something is answered that it is done
pub changing_fine : (d : Data) (t : Tables) (tree after : Tree) (v : Extent) (size : ℕ) (came : List Exchange) (call : FileCall) (answer : CallAnswer) → changed d tree call ≡ Some after → AnswersOn v t size came call answer → answer ≡ Fine
changing_fine d t tree after v size came (Stat p) answer some is = absurd (none-some after some)
changing_fine d t tree after v size came (Lists p) answer some is = absurd (none-some after some)
changing_fine d t tree after v size came (Read p offset count) answer some is = absurd (none-some after some)
changing_fine d t tree after v size came (Write p offset byte count) answer some is = is
changing_fine d t tree after v size came (Truncate p to) answer some is = is
changing_fine d t tree after v size came (Mkdir p) answer some is = is
changing_fine d t tree after v size came (Create p) answer some is = is
changing_fine d t tree after v size came (Rename from to) answer some is = is
changing_fine d t tree after v size came (Unlink p) answer some is = is
changing_fine d t tree after v size came (Rmdir p) answer some is = is

-- Plans

stays_so : (d : Data) (t : Tables) (cs : List Change) (tree : Tree) (after : Option Tree) → PlanFollows d t cs tree after → cs ≡ [] → after ≡ None
stays_so d t cs tree None follows none = refl
stays_so d t cs tree (Some after) follows none = absurd (follows.0 none)

changes_so : (d : Data) (t : Tables) (cs : List Change) (tree : Tree) (after : Option Tree) → PlanFollows d t cs tree after → cs ≢ [] → (changed_tree : Tree) × (after ≡ Some changed_tree)
changes_so d t cs tree None follows some = absurd (some follows)
changes_so d t cs tree (Some after) follows some = (after, refl)

module _ (m : ℕ) (v : Extent) (d : Data) (t : Tables) (p : Pending) where
  with_refuses : (cs : List Change) (fault : CallFault) → planned_with m v t p cs ≡ Refuses fault → ⊥
  with_refuses [] fault e = cc
  with_refuses (c ∷ cs) fault e = cc

  by_refuses : (r : Option ℕ) (fault : CallFault) → planned_by m v d t p r ≡ Refuses fault → (number : ℕ) × (r ≡ Some number) × (call_fault_of number ≡ fault)
  by_refuses (Some number) fault e = let same : call_fault_of number ≡ fault = cc in (number, refl, same)
  by_refuses None fault e = absurd (with_refuses (changes d t p.call) fault e)

  with_goes : (cs : List Change) (step : Moved) → planned_with m v t p cs ≡ Goes step → cs ≡ []
  with_goes [] step e = refl
  with_goes (c ∷ cs) step e = cc

  by_goes : (r : Option ℕ) (step : Moved) → planned_by m v d t p r ≡ Goes step → (r ≡ None) × (changes d t p.call ≡ [])
  by_goes (Some number) step e = cc
  by_goes None step e = (refl, with_goes (changes d t p.call) step e)

  with_proposes : (cs : List Change) (txn : Txn) → planned_with m v t p cs ≡ Proposes txn → cs ≢ []
  with_proposes [] txn e = cc
  with_proposes (c ∷ cs) txn e = λ none. cc

  by_proposes : (r : Option ℕ) (txn : Txn) → planned_by m v d t p r ≡ Proposes txn → (r ≡ None) × (changes d t p.call ≢ [])
  by_proposes (Some number) txn e = cc
  by_proposes None txn e = (refl, with_proposes (changes d t p.call) txn e)

  module _ (tree : Tree) (stand : TablesStandFor d t tree) (is : IsCall p.call) where
    abbrev r : Option ℕ
    r = refusal (tables_sight d t) p.call

    same : r ≡ refusal (tree_sight d tree) p.call
    same = same_refusal d t tree stand p.call

    pub refused_so : (fault : CallFault) (answer : CallAnswer) → planned m v d t p ≡ Refuses fault → answer ≡ Refused fault → CallIsRefusedBy d tree p.call answer
    refused_so fault answer e answer_is = let its = by_refuses r fault e in record { number = its.0; refuses = sym same ∙ its.1; answer_is = answer_is ∙ ap Refused (sym its.2) }

    pub goes_so : (step : Moved) → planned m v d t p ≡ Goes step → (refusal (tree_sight d tree) p.call ≡ None) × (changed d tree p.call ≡ None)
    goes_so step e =
        let its = by_goes r step e in
        let fine = sym same ∙ its.0 in
        (fine, stays_so d t (changes d t p.call) tree (changed d tree p.call) (follows d t tree stand p.call is fine) its.1)

    pub proposes_so : (txn : Txn) → planned m v d t p ≡ Proposes txn → (refusal (tree_sight d tree) p.call ≡ None) × (after : Tree) × (changed d tree p.call ≡ Some after)
    proposes_so txn e =
        let its = by_proposes r txn e in
        let fine = sym same ∙ its.0 in
        let after = changes_so d t (changes d t p.call) tree (changed d tree p.call) (follows d t tree stand p.call is fine) its.1 in
        (fine, after.0, after.1)

-- a transaction of the call
own_parts : (m number : ℕ) (txn : Txn) (a b : Bool) → (txn.mount == m) ≡ a → (txn.number == number) ≡ b → (a && b) ≡ true → (txn.mount ≡ m) × (txn.number ≡ number)
own_parts m number txn true true first second both = (eqb-true txn.mount m first, eqb-true txn.number number second)
own_parts m number txn true false first second both = cc
own_parts m number txn false b first second both = cc

pub record Spells (m number : ℕ) (value : List ℕ) : Type 0 where
  pub txn : Txn
  pub spells : txn_in value ≡ Some txn
  pub mount_is : txn.mount ≡ m
  pub number_is : txn.number ≡ number

pub own_txn : (m number : ℕ) (value : List ℕ) (txn : Option Txn) → txn_in value ≡ txn → is_txn_of m number txn ≡ true → Spells m number value
own_txn m number value None spells own = cc
own_txn m number value (Some txn) spells own =
    let parts = own_parts m number txn (txn.mount == m) (txn.number == number) refl refl own in
    record { txn = txn; spells = spells; mount_is = parts.0; number_is = parts.1 }
