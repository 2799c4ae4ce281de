-- An answer is handed out.
use Rattle.std.proofs.Common.{◌≡◌, ◌≢◌, ℕ, inl, inr, true, false, List, length, map, Option, Some, None, slice_get, slice_set, refl, sym, ap, subst, ◌∙◌}
use Rattle.std.specs.Option.{option_map}
use Rattle.std.proofs.lemmas.Bool.{true≢false}
use Rattle.std.proofs.lemmas.Option.{none-some, same_Some, slice_get-map}
use Rattle.pf_entry.specs.Ops.{Sector}
use Rattle.pf_entry.proofs.Lists.{every_get, set_cases}
use Rattle.pf_protocol.specs.Servers.{Setup}
use Rattle.pf_protocol.specs.Groups.{Group}
use Rattle.pf_server_store.specs.Stores.{StoreModel}
use Rattle.pf_group_network.specs.declared.network.Network.{Network}
use Rattle.pf_group_network.specs.declared.kept.Reading.{Reading}
use Rattle.pf_group_network.specs.declared.kept.Reading.TheVariants.{Waiting, Answered, Taken}
use Rattle.pf_group_network.specs.Readings.{answer_in, is_taken, without_answer}
use Rattle.pf_group_network.specs.Showing.{AreReadings, IsReadingOf, Shows}
use Rattle.pf_group_network.specs.Shown.{ListsUnread, TakesRead}
use Rattle.pf_group_network.specs.Unread.{IsNumberAmong, ReadingsAre, reading_answer, without_answer_in}
use Rattle.pf_group_network.proofs.Lists.{set_length, set_mapped, set_same}

module _ (g : Group) (readings : List Reading) (are : AreReadings g.answered readings) (number : ℕ) where
  -- there is no such read
  takes_none : slice_get readings number ≡ None → TakesRead g number (map is_taken readings) (map is_taken readings) None
  takes_none none = (λ is. absurd (none-some false (sym (ap (option_map is_taken) none) ∙ sym (slice_get-map is_taken readings number) ∙ is)), refl)

  module _ (was : Reading) (there : slice_get readings number ≡ Some was) where
    its_mark : slice_get (map is_taken readings) number ≡ Some (is_taken was)
    its_mark = slice_get-map is_taken readings number ∙ ap (option_map is_taken) there

    stays : (x : Reading) → x ≡ was → map is_taken (slice_set readings number x) ≡ map is_taken readings
    stays x same = ap (map is_taken) (set_same readings number x (there ∙ ap Some (sym same)))

    -- its answer is handed out, if there is one
    takes : TakesRead g number (map is_taken readings) (map is_taken (slice_set readings number (without_answer was))) (answer_in was)
    takes = by was refl
      where
        by : (x : Reading) → x ≡ was → TakesRead g number (map is_taken readings) (map is_taken (slice_set readings number (without_answer x))) (answer_in x)
        by Waiting same = (λ _. are number Waiting (there ∙ ap Some (sym same)), stays Waiting same)
        by (Answered bytes) same = (its_mark ∙ ap (λ x. Some (is_taken x)) (sym same), are number (Answered bytes) (there ∙ ap Some (sym same)), sym (set_mapped is_taken readings number Taken))
        by Taken same = (λ is. absurd (true≢false (same_Some true false (sym (its_mark ∙ ap (λ x. Some (is_taken x)) (sym same)) ∙ is))), stays Taken same)

    still_are : AreReadings g.answered (slice_set readings number (without_answer was))
    still_are k reading at = elim (set_cases readings number (without_answer was) k reading at) [
      | inl here ↦ subst (λ n. IsReadingOf g.answered n reading) (sym here.0) (subst (IsReadingOf g.answered number) here.1 (left was (are number was there)))
      | inr apart ↦ are k reading apart.1
    ]
      where
        left : (x : Reading) → IsReadingOf g.answered number x → IsReadingOf g.answered number (without_answer x)
        left Waiting is = is
        left (Answered bytes) is = (bytes, is)
        left Taken is = is

  -- whatever is there
  pub takes_at : TakesRead g number (map is_taken readings) (map is_taken (without_answer_in readings number (slice_get readings number))) (reading_answer (slice_get readings number))
  takes_at = by (slice_get readings number) refl
    where
      by : (there : Option Reading) → slice_get readings number ≡ there → TakesRead g number (map is_taken readings) (map is_taken (without_answer_in readings number there)) (reading_answer there)
      by None none = takes_none none
      by (Some was) there = takes was there

  still_at : AreReadings g.answered (without_answer_in readings number (slice_get readings number))
  still_at = by (slice_get readings number) refl
    where
      by : (there : Option Reading) → slice_get readings number ≡ there → AreReadings g.answered (without_answer_in readings number there)
      by None none = are
      by (Some was) there = still_are was there

  -- each answer that was not handed out is listed
  pub lists_unread : (numbers : List ℕ) → ((n : ℕ) (bytes : List Sector) → slice_get readings n ≡ Some (Answered bytes) → IsNumberAmong numbers n) → ListsUnread g (map is_taken readings) numbers
  lists_unread numbers listed n bytes pending has = by (slice_get readings n) refl
    where
      of_reading : (r : Reading) → slice_get readings n ≡ Some r → is_taken r ≡ false → IsNumberAmong numbers n
      of_reading Waiting at is = absurd (every_get (λ a. a.number ≢ n) g.answered has.k has.answer (are n Waiting at) has.there has.numbered)
      of_reading (Answered first) at is = listed n first at
      of_reading Taken at is = absurd (true≢false is)

      by : (there : Option Reading) → slice_get readings n ≡ there → IsNumberAmong numbers n
      by None none = absurd (none-some false (sym (ap (option_map is_taken) none) ∙ sym (slice_get-map is_taken readings n) ∙ pending))
      by (Some r) there = of_reading r there (same_Some (is_taken r) false (sym (ap (option_map is_taken) there) ∙ sym (slice_get-map is_taken readings n) ∙ pending))

without_count : (readings : List Reading) (place : ℕ) (there : Option Reading) → length (without_answer_in readings place there) ≡ length readings
without_count readings place None = refl
without_count readings place (Some was) = set_length readings place (without_answer was)

module _ {S : Type 0} (model : StoreModel S) where
  -- the network stands for the same group
  pub shows_still : (setup : Setup) (g : Group) (network : Network S) (readings : ReadingsAre) → AreReadings g.answered readings.items → length readings.items ≡ length network.readings.items → Shows model setup network g → Shows model setup (record network { readings = readings }) g
  shows_still setup g network readings are count shows = record {
    three = shows.three;
    members = shows.members;
    traffic = (let t = shows.traffic in record { packets = t.packets; places = t.places; room = t.room; acked = t.acked; elections = t.elections; readings = are });
    reads = count ∙ shows.reads;
  }

  pub shows_taken : (setup : Setup) (g : Group) (network : Network S) (number : ℕ) (readings : ReadingsAre) → readings.items ≡ without_answer_in network.readings.items number (slice_get network.readings.items number) → Shows model setup network g → Shows model setup (record network { readings = readings }) g
  shows_taken setup g network number readings items shows =
      shows_still setup g network readings (subst (AreReadings g.answered) (sym items) (still_at g network.readings.items shows.traffic.readings number)) (ap length items ∙ without_count network.readings.items number (slice_get network.readings.items number)) shows
