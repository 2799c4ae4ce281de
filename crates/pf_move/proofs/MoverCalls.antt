-- What calls of a mover come to, from any of its states.
use Rattle.std.proofs.Common.{◌≡◌, ◌↔◌, ℕ, suc, ◌+◌, ◌<◌, ◌≤◌, ◌||◌, nat_eq, Bool, true, false, cond, List, [], ◌∷◌, ◌++◌, length, Option, Some, None, refl, sym, ◌∙◌, ap, subst, arith}
use Rattle.pf_base.specs.Span.{Span}
use Rattle.pf_base.specs.declared.asks.Reply.{Reply}
use Rattle.pf_base.specs.declared.asks.Reply.TheVariants.{Written, Bytes}
use Rattle.pf_move.specs.declared.mover.MoverAsk.{MoverAsk}
use Rattle.pf_move.specs.declared.mover.MoverAsk.TheVariants.{Reading, Writing}
use Rattle.pf_move.specs.declared.mover.MoveNext.{MoveNext}
use Rattle.pf_move.specs.declared.mover.MoveNext.TheVariants.{Read, Write, Switch}
use Rattle.pf_move.specs.Movers.{ReplyFits, MoverIs, MoverStep, is_zero, new_mover, piece, reads_on, step}
use Rattle.pf_move.specs.Turns.{Copy, IsCopied, MoverTurn, Turns, answers, copies, pieces_given, is_switch, is_switched, pieces, read, read_by, pieces_written, copies_after}

-- the pieces that were given
abbrev base : (done : ℕ) → Option MoverAsk → ℕ
base done (Some Writing) = done + 1
base done _ = done

-- the pieces that were asked to be read
abbrev asked_for : (done : ℕ) → Option MoverAsk → ℕ
asked_for done None = done
asked_for done (Some _) = done + 1

-- the writes that are not answered
abbrev writing : Option MoverAsk → ℕ
writing (Some Writing) = 1
writing _ = 0

abbrev mover : (chunk count done : ℕ) → Option MoverAsk → MoverIs
mover chunk count done asked = record { chunk = chunk; pieces = count; done = done; asked = asked }

-- what calls come to that begin where so many pieces are done, and this ask is waited for
record Goes (done : ℕ) (asked : Option MoverAsk) (count : ℕ) (turns : List MoverTurn) (new : MoverIs) : Type 0 where
  reads : (n : ℕ) × (asked_for done asked + n ≤ count) × (read turns ≡ pieces (asked_for done asked) n)
  writes : pieces_written turns ≡ copies (base done asked) (pieces_given turns)
  gave : base done asked + length (pieces_given turns) ≡ base new.done new.asked
  answered : writing asked + length (pieces_written turns) ≡ answers turns + writing new.asked
  switch : (is_switched turns ≡ true) ↔ (new.done ≡ count)
  fits : asked_for new.done new.asked ≤ count

-- the same of what a call wants done where no ask is waited for, and the calls after it
record Follows (done count : ℕ) (next : MoveNext) (turns : List MoverTurn) (new : MoverIs) : Type 0 where
  reads : (n : ℕ) × (done + n ≤ count) × (read_by next (read turns) ≡ pieces done n)
  writes : copies_after next (pieces_written turns) ≡ copies done (pieces_given turns)
  gave : done + length (pieces_given turns) ≡ base new.done new.asked
  answered : length (copies_after next (pieces_written turns)) ≡ answers turns + writing new.asked
  switch : ((is_switch next || is_switched turns) ≡ true) ↔ (new.done ≡ count)
  fits : asked_for new.done new.asked ≤ count

abbrev Later : (chunk count : ℕ) (turns : List MoverTurn) (new : MoverIs) → Type 0
Later chunk count turns new = (done : ℕ) (asked : Option MoverAsk) → asked_for done asked ≤ count → done < count → Turns (mover chunk count done asked) turns new → Goes done asked count turns new

switched : (chunk done count : ℕ) → done ≡ count → Follows done count Switch [] (mover chunk count done None)
switched chunk done count all = record {
  reads = (0, omega (arith, all), refl);
  writes = refl;
  gave = omega arith;
  answered = refl;
  switch = ((λ _. all), (λ _. refl));
  fits = omega (arith, all);
}

reads_one : (chunk done count : ℕ) (turns : List MoverTurn) (new : MoverIs) → Goes done (Some Reading) count turns new → Follows done count (Read (piece done)) turns new
reads_one chunk done count turns new g = record {
  reads = (suc g.reads.0, omega (arith, g.reads.1), ap (λ (spans : List Span). piece done ∷ spans) g.reads.2);
  writes = g.writes;
  gave = g.gave;
  answered = omega (arith, g.answered);
  switch = g.switch;
  fits = g.fits;
}

abbrev next_of : (chunk count done : ℕ) → Option MoverAsk → Bool → MoverStep
next_of chunk count done asked b =
    cond b
    (record { next = Switch; mover = mover chunk count done None })
    (record { next = Read (piece done); mover = mover chunk count done (Some Reading) })

follows : (turns : List MoverTurn) (new : MoverIs) (chunk count done : ℕ) (asked : Option MoverAsk) → Later chunk count turns new → done ≤ count → (b : Bool) → nat_eq done count ≡ b →
    Turns (next_of chunk count done asked b).mover turns new → Follows done count (next_of chunk count done asked b).next turns new
follows [] new chunk count done asked later low true is t =
    let all : done ≡ count = grind (arith, is) in
    let P : MoverIs → Type 0 = λ m. Follows done count Switch [] m in
    subst P (sym t) (switched chunk done count all)
follows (turn ∷ turns) new chunk count done asked later low true is t =
    let all : done ≡ count = grind (arith, is) in
    absurd (omega (arith, all, t.0))
follows turns new chunk count done asked later low false is t =
    let lt : done < count = grind (arith, is, low) in
    reads_one chunk done count turns new (later done (Some Reading) (omega (arith, lt)) lt t)

first_one : (done count : ℕ) (turns : List MoverTurn) (new : MoverIs) (next : MoveNext) → Follows done count next turns new → Goes done None count (record { reply = None; next = next } ∷ turns) new
first_one done count turns new next f = record {
  reads = f.reads;
  writes = f.writes;
  gave = f.gave;
  answered = omega (arith, f.answered);
  switch = f.switch;
  fits = f.fits;
}

answered_one : (done count : ℕ) (turns : List MoverTurn) (new : MoverIs) (next : MoveNext) → Follows (done + 1) count next turns new →
    Goes done (Some Writing) count (record { reply = Some Written; next = next } ∷ turns) new
answered_one done count turns new next f = record {
  reads = f.reads;
  writes = f.writes;
  gave = f.gave;
  answered = omega (arith, f.answered);
  switch = f.switch;
  fits = f.fits;
}

skips_one : (done count : ℕ) (turns : List MoverTurn) (new : MoverIs) (next : MoveNext) (sectors : List (List ℕ)) → is_zero sectors ≡ true → Follows (done + 1) count next turns new →
    Goes done (Some Reading) count (record { reply = Some (Bytes sectors); next = next } ∷ turns) new
skips_one done count turns new next sectors is f =
    let rest : List Copy = copies (done + 1) (pieces_given turns) in
    record {
      reads = f.reads;
      writes = f.writes ∙ sym (ap (λ b. cond b rest (record { span = piece done; sectors = sectors } ∷ rest)) is);
      gave = omega (arith, f.gave);
      answered = omega (arith, f.answered);
      switch = f.switch;
      fits = f.fits;
    }

writes_one : (done count : ℕ) (turns : List MoverTurn) (new : MoverIs) (sectors : List (List ℕ)) → is_zero sectors ≡ false → Goes done (Some Writing) count turns new →
    Goes done (Some Reading) count (record { reply = Some (Bytes sectors); next = Write (piece done) sectors } ∷ turns) new
writes_one done count turns new sectors is g =
    let rest : List Copy = copies (done + 1) (pieces_given turns) in
    let copy : Copy = record { span = piece done; sectors = sectors } in
    record {
      reads = g.reads;
      writes = ap (λ (copies : List Copy). copy ∷ copies) g.writes ∙ sym (ap (λ b. cond b rest (copy ∷ rest)) is);
      gave = omega (arith, g.gave);
      answered = omega (arith, g.answered);
      switch = g.switch;
      fits = g.fits;
    }

abbrev read_of : (chunk count done : ℕ) → List (List ℕ) → Bool → MoverStep
read_of chunk count done sectors b =
    cond b
    (reads_on (mover chunk count (done + 1) (Some Reading)))
    (record { next = Write (piece done) sectors; mover = mover chunk count done (Some Writing) })

was_read : (turns : List MoverTurn) (new : MoverIs) (chunk count done : ℕ) (sectors : List (List ℕ)) → Later chunk count turns new → done < count → (b : Bool) → is_zero sectors ≡ b →
    Turns (read_of chunk count done sectors b).mover turns new →
    Goes done (Some Reading) count (record { reply = Some (Bytes sectors); next = (read_of chunk count done sectors b).next } ∷ turns) new
was_read turns new chunk count done sectors later lt true is t =
    skips_one done count turns new (read_of chunk count done sectors true).next sectors is
    (follows turns new chunk count (done + 1) (Some Reading) later (omega (arith, lt)) (nat_eq (done + 1) count) refl t)
was_read turns new chunk count done sectors later lt false is t =
    writes_one done count turns new sectors is (later done (Some Writing) (omega (arith, lt)) lt t)

after : (turns : List MoverTurn) (new : MoverIs) (chunk count done : ℕ) → Later chunk count turns new → done < count → (asked : Option MoverAsk) (reply : Option Reply) → ReplyFits asked reply →
    Turns (step (mover chunk count done asked) reply).mover turns new →
    Goes done asked count (record { reply = reply; next = (step (mover chunk count done asked) reply).next } ∷ turns) new
after turns new chunk count done later lt None None fit t =
    first_one done count turns new (step (mover chunk count done None) None).next
    (follows turns new chunk count done None later (omega (arith, lt)) (nat_eq done count) refl t)
after turns new chunk count done later lt (Some Reading) (Some (Bytes sectors)) fit t = was_read turns new chunk count done sectors later lt (is_zero sectors) refl t
after turns new chunk count done later lt (Some Writing) (Some Written) fit t =
    answered_one done count turns new (step (mover chunk count done (Some Writing)) (Some Written)).next
    (follows turns new chunk count (done + 1) (Some Writing) later (omega (arith, lt)) (nat_eq (done + 1) count) refl t)
after turns new chunk count done later lt None (Some _) fit t = absurd fit
after turns new chunk count done later lt (Some Reading) None fit t = absurd fit
after turns new chunk count done later lt (Some Reading) (Some Written) fit t = absurd fit
after turns new chunk count done later lt (Some Writing) None fit t = absurd fit
after turns new chunk count done later lt (Some Writing) (Some (Bytes _)) fit t = absurd fit

stays : (chunk count done : ℕ) (asked : Option MoverAsk) → asked_for done asked ≤ count → done < count → Goes done asked count [] (mover chunk count done asked)
stays chunk count done asked ok lt = record {
  reads = (0, omega (arith, ok), refl);
  writes = refl;
  gave = omega arith;
  answered = omega arith;
  switch = ((λ no. cc), (λ all. absurd (omega (arith, all, lt))));
  fits = ok;
}

goes : (turns : List MoverTurn) (new : MoverIs) (chunk count : ℕ) → Later chunk count turns new
goes [] new chunk count done asked ok lt t =
    let P : MoverIs → Type 0 = λ m. Goes done asked count [] m in
    subst P (sym t) (stays chunk count done asked ok lt)
goes (turn ∷ turns) new chunk count done asked ok lt t =
    let P : MoverStep → Type 0 = λ s. Goes done asked count (record { reply = turn.reply; next = s.next } ∷ turns) new in
    let Q : MoverStep → Type 0 = λ s. Turns s.mover turns new in
    subst P t.3 (after turns new chunk count done (goes turns new chunk count) lt asked turn.reply t.1 (subst Q (sym t.3) t.4))

ends : (done : ℕ) (asked : Option MoverAsk) (count reads replies writes : ℕ) → asked_for done asked ≤ count → reads ≡ base done asked → writes ≡ replies + writing asked →
    (reads ≤ count) × ((done ≡ count) ↔ ((reads ≡ count) × (replies ≡ writes)))
ends done None count reads replies writes fits gave answered =
    (omega (arith, fits, gave), ((λ all. (omega (arith, all, gave), omega (arith, answered))), (λ h. omega (arith, h.0, gave))))
ends done (Some Reading) count reads replies writes fits gave answered =
    (omega (arith, fits, gave), ((λ all. absurd (omega (arith, all, fits))), (λ h. absurd (omega (arith, h.0, fits, gave)))))
ends done (Some Writing) count reads replies writes fits gave answered =
    (omega (arith, fits, gave), ((λ all. absurd (omega (arith, all, fits))), (λ h. absurd (omega (arith, h.1, answered)))))

pub is_copied : (chunk count : ℕ) (turns : List MoverTurn) (new : MoverIs) → 0 < count → Turns (new_mover chunk count) turns new → IsCopied count turns
is_copied chunk count turns new some t =
    let g : Goes 0 None count turns new = goes turns new chunk count 0 None (omega (arith, some)) some t in
    let end : (length (pieces_given turns) ≤ count) × ((new.done ≡ count) ↔ ((length (pieces_given turns) ≡ count) × (answers turns ≡ length (pieces_written turns)))) =
    ends new.done new.asked count (length (pieces_given turns)) (answers turns) (length (pieces_written turns)) g.fits (omega (arith, g.gave)) (omega (arith, g.answered)) in
    record {
      reads = (g.reads.0, omega (arith, g.reads.1), g.reads.2);
      writes = g.writes;
      few = end.0;
      switch = ((λ h. end.1.0 (g.switch.0 h)), (λ h. g.switch.1 (end.1.1 h)));
    }

-- calls that follow others
pub turns_append : (earlier later : List MoverTurn) (old mid new : MoverIs) → Turns old earlier mid → Turns mid later new → Turns old (earlier ++ later) new
turns_append [] later old mid new e t =
    let P : MoverIs → Type 0 = λ m. Turns m later new in
    subst P e t
turns_append (turn ∷ earlier) later old mid new e t = (e.0, e.1, e.2, e.3, turns_append earlier later e.2 mid new e.4 t)
