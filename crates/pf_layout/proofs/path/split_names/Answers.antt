use Rattle.std.proofs.Common.{◌≡◌, ◌≢◌, ◌==◌, [], ◌∷◌, ◌++◌, length, sym, ap, subst, ◌∙◌}
use Rattle.std.proofs.lemmas.Bool.{false≢true}
use Rattle.pf_layout.specs.Paths.{IsName}
use Rattle.pf_tree.specs.Paths.{names_bytes}
use Rattle.pf_layout.proofs.PathLaws.{what_is_left, none_without, last_is_name, one_more, all_append}
use Rattle.pf_layout.proofs.path.split_names.Goals as goal

pub returns-in_default-clause-bad_name : goal.returns-in_default-clause-bad_name
returns-in_default-clause-bad_name c = λ bad path is spelled.
    let left = what_is_left c.loop-rest.names.items path c.loop-rest.rest.now c.loop-rest.invariant.names is (spelled ∙ sym c.loop-rest.invariant.spelled) in
    let some : c.loop-rest.rest.now ≢ [] = λ e. false≢true (sym c.loop-rest-test.true ∙ c.is_empty.ensures ∙ ap (λ bytes. length bytes == 0) e) in
    none_without left.0 c.loop-rest.rest.now some c.in_default.ensures.none left.2

pub returns-then-not-is_name-clause-bad_name : goal.returns-then-not-is_name-clause-bad_name
returns-then-not-is_name-clause-bad_name c = λ bad path is spelled.
    let left = what_is_left c.loop-rest.names.items path c.loop-rest.rest.now c.loop-rest.invariant.names is (spelled ∙ sym c.loop-rest.invariant.spelled) in
    let is_name = last_is_name left.0 c.in-Some.front.now c.in-Some.name.now left.1 c.in-Some.ensures.last (left.2 ∙ c.in-Some.ensures.cut) in
    false≢true (sym c.if-not-is_name.true ∙ c.is_name.ensures.1 is_name)

pub loop-rest-preserved : goal.loop-rest-preserved
loop-rest-preserved c =
    let name : c.new.result ≡ c.in-Some.name.now = c.new.ensures ∙ c.in_ok-from_slice.ensures.items in
    rw c.in_ok-push.ensures.items record {
      names = all_append c.loop-rest.names.items c.new.result c.loop-rest.invariant.names (subst IsName (sym name) (c.is_name.ensures.0 c.if-not-is_name.false));
      spelled =
          one_more c.in-Some.front.now c.new.result c.loop-rest.names.items
          ∙ ap (λ bytes. (c.in-Some.front.now ++ 47 ∷ bytes) ++ names_bytes c.loop-rest.names.items) name
          ∙ ap (λ bytes. bytes ++ names_bytes c.loop-rest.names.items) (sym c.in-Some.ensures.cut)
          ∙ c.loop-rest.invariant.spelled;
    }
