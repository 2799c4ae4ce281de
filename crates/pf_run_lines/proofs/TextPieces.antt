-- A text that is read piece by piece.
use Rattle.std.proofs.Common.{◌≡◌, inl, inr, ℕ, ◌<◌, ◌≤◌, List, [], ◌∷◌, ◌++◌, length, Option, Some, None, IfOk, IfErr, Vec, Result, Ok, Err, take, refl, ap, sym, subst, ◌∙◌, arith, append-nil}
use Rattle.std.specs.declared.alloc.Global.{Global}
use Rattle.std.specs.Io.KnownBytes.{Consumes, IsAtEnd, Keeps}
use Rattle.std.proofs.KnownBytes.{Consumes-nil, Consumes-trans, Consumes-kept}
use Rattle.pf_script.specs.declared.command.LineFault.{LineFault}
use Rattle.pf_run_lines.specs.declared.scan.Stop.{Stop}
use Rattle.pf_run_lines.specs.declared.scan.Stop.TheVariants as stops
use Rattle.pf_run_lines.specs.LineScans.{LineRules, Scanned, Open, Refused, Judged, judged, scan, ScanIsOpen, fed, fed_all, fed_line, close, last_line, ended, read_line}
use Rattle.pf_run_lines.specs.ScanView.{Told, ScanEnds}
use Rattle.pf_run_lines.specs.Runs.{IsRead, IsReadUpto, IsRefused, IsText, IsSource, IsUndecided, StopSays}
use Rattle.pf_run_lines.proofs.TextBytes.{scan_append, scan_none, fed_refused, refused_all}

-- the text of a source, or any where it does not tell its bytes
pub a_text : Option (List ℕ) → List ℕ
a_text None = []
a_text (Some bytes) = bytes

pub is_text : (left : Option (List ℕ)) → IsSource left (a_text left)
unfolding a_text
is_text None = tt
is_text (Some bytes) = refl

module _ {S I : Type 0} (rules : LineRules S I) where
  pub told_on : (stop : Stop) (s : Scanned S I) (b : ℕ) (bs : List ℕ) (now later : Scanned S I) → Told (Err stop) (fed rules s b) now → Told (Err stop) (fed_all rules s (b ∷ bs)) later
  told_on stops.NoMemory s b bs now later h = tt
  told_on (stops.Refused line fault) s b bs now later h = fed_refused rules s b bs line fault h
  told_on stops.Failed s b bs now later h = absurd h

  pub close_begun : (ls : List I) (n : ℕ) (v : S) (b : List ℕ) → 0 < length b → close rules (Open ls n v b) ≡ last_line rules ls n v (read_line rules n v b)
  close_begun ls n v [] some = absurd (omega arith)
  close_begun ls n v (b ∷ bs) some = refl

  pub ends_told : (stop : Stop) (ls : List I) (n : ℕ) (v : S) (r : Result (Option I) LineFault) (now : Scanned S I) → Told (Err stop) (fed_line rules ls n v r) now → ScanEnds (Err stop) (last_line rules ls n v r)
  ends_told stops.NoMemory ls n v r now h = tt
  ends_told (stops.Refused line fault) ls n v (Err f) now h = ap (close rules) h
  ends_told (stops.Refused line fault) ls n v (Ok c) now h = absurd (cc)
  ends_told stops.Failed ls n v r now h = absurd h

  abbrev closed : Scanned S I → Judged I
  closed (Refused line fault) = Err (line, fault)
  closed (Open ls n v b) = ended rules ls n v

  pub line_ended : (ls : List I) (n : ℕ) (v : S) (r : Result (Option I) LineFault) (ls2 : List I) (n2 : ℕ) (v2 : S) (b2 : List ℕ) → fed_line rules ls n v r ≡ Open ls2 n2 v2 b2 → last_line rules ls n v r ≡ ended rules ls2 n2 v2
  line_ended ls n v (Err f) ls2 n2 v2 b2 h = absurd (cc)
  line_ended ls n v (Ok c) ls2 n2 v2 b2 h = ap closed h

module _ {S I : Type 0} (rules : LineRules S I) (start : S) where
  pub read_start : (o : Option (List ℕ)) (s : Scanned S I) → s ≡ Open [] 1 start [] → IsRead rules start o o s
  read_start o s h = record { bytes = []; taken = Consumes-nil o; scan_is = scan_none rules start ∙ sym h }

  pub read_more : (a b c : Option (List ℕ)) (s t : Scanned S I) (piece : List ℕ) → IsRead rules start a b s → Consumes b c piece → fed_all rules s piece ≡ t → IsRead rules start a c t
  read_more a b c s t piece read taken then = record {
    bytes = read.bytes ++ piece;
    taken = Consumes-trans a b c read.bytes piece read.taken taken;
    scan_is = scan_append rules start read.bytes piece ∙ ap (λ x. fed_all rules x piece) read.scan_is ∙ then;
  }

  more : (s : Scanned S I) (piece rest : List ℕ) (line : ℕ) (fault : LineFault) → fed_all rules s piece ≡ Refused line fault → fed_all rules s (piece ++ rest) ≡ Refused line fault
  more s [] rest line fault h = ap (λ x. fed_all rules x rest) h ∙ refused_all rules line fault rest
  more s (b ∷ bs) rest line fault h = more (fed rules s b) bs rest line fault h

  -- whatever follows, a line that is refused stays so
  refused_front : (bytes rest : List ℕ) (line : ℕ) (fault : LineFault) → scan rules start bytes ≡ Refused line fault → judged rules start (bytes ++ rest) ≡ Err (line, fault)
  refused_front bytes rest line fault h = ap (close rules) (scan_append rules start bytes rest ∙ ap (λ x. fed_all rules x rest) h ∙ refused_all rules line fault rest)

  -- a refused line was whole in what was read
  pub refused_read : (a b : Option (List ℕ)) (line : ℕ) (fault : LineFault) → IsRead rules start a b (Refused line fault) → IsRefused rules start a line fault
  refused_read None b line fault read = record { text = read.bytes; source = tt; refused = ap (close rules) read.scan_is }
  refused_read (Some bytes) None line fault read = absurd read.taken
  refused_read (Some bytes) (Some rest) line fault read = record {
    text = bytes;
    source = refl;
    refused = ap (judged rules start) read.taken ∙ refused_front read.bytes rest line fault read.scan_is;
  }

  pub refused_text : (stop : Stop) (a b c : Option (List ℕ)) (s now : Scanned S I) (piece : List ℕ) (failed : Type 0) → IsRead rules start a b s → Consumes b c piece → Told (Err stop) (fed_all rules s piece) now
      → StopSays stop (IsRefused rules start a) failed
  refused_text stops.NoMemory a b c s now piece failed read taken told = tt
  refused_text stops.Failed a b c s now piece failed read taken told = absurd told
  refused_text (stops.Refused line fault) a b c s now piece failed read taken told = refused_read a c line fault (read_more a b c s (Refused line fault) piece read taken told)

  -- a source at its end gave all that it had
  all_read : (a b : Option (List ℕ)) (bytes : List ℕ) → Consumes a b bytes → IsAtEnd b → IsSource a bytes
  all_read None b bytes taken end = tt
  all_read (Some xs) None bytes taken end = absurd taken
  all_read (Some xs) (Some rest) bytes taken end = sym (taken ∙ ap (λ l. bytes ++ l) end ∙ append-nil bytes)

  -- the text ends here
  pub ended_text : (a b : Option (List ℕ)) (s : Scanned S I) (items : List I) → IsRead rules start a b s → IsAtEnd b → close rules s ≡ Ok items → IsText rules start a b items
  ended_text a b s items read end judged = record {
    text = read.bytes;
    source = all_read a b read.bytes read.taken end;
    accepted = ap (close rules) read.scan_is ∙ judged;
    whole = end;
  }

  pub stopped_at_end : (stop : Stop) (a b : Option (List ℕ)) (s : Scanned S I) (failed : Type 0) → IsRead rules start a b s → IsAtEnd b → ScanEnds (Err stop) (close rules s) → StopSays stop (IsRefused rules start a) failed
  stopped_at_end stops.NoMemory a b s failed read end ends = tt
  stopped_at_end stops.Failed a b s failed read end ends = absurd ends
  stopped_at_end (stops.Refused line fault) a b s failed read end ends = record {
    text = read.bytes;
    source = all_read a b read.bytes read.taken end;
    refused = ap (close rules) read.scan_is ∙ ends;
  }

  pub ended_result : (r : Result (Vec I Global) Stop) (a b : Option (List ℕ)) (s : Scanned S I) (failed : Type 0) → IsRead rules start a b s → IsAtEnd b → ScanEnds r (close rules s)
      → IfErr r (λ stop. StopSays stop (IsRefused rules start a) failed)
  ended_result (Ok items) a b s failed read end ends = tt
  ended_result (Err stop) a b s failed read end ends = stopped_at_end stop a b s failed read end ends

  pub accepted_result : (r : Result (Vec I Global) Stop) (a b : Option (List ℕ)) (s : Scanned S I) → IsRead rules start a b s → IsAtEnd b → ScanEnds r (close rules s) → IfOk r (λ items. IsText rules start a b items.items)
  accepted_result (Ok items) a b s read end ends = ended_text a b s items.items read end ends
  accepted_result (Err stop) a b s read end ends = tt

  pub read_none : (a b c : Option (List ℕ)) (s : Scanned S I) (buf : List ℕ) (n : ℕ) → n ≡ 0 → IsRead rules start a b s → Consumes b c (take n buf) → IsRead rules start a c s
  read_none a b c s buf n none read taken = read_more a b c s s (take n buf) read taken (ap (λ k. fed_all rules s (take k buf)) none)

  -- no refused line was whole when the source failed
  pub undecided : (a b c : Option (List ℕ)) (items : List I) (n : ℕ) (v : S) (begun : List ℕ) → IsRead rules start a b (Open items n v begun) → Keeps b c → IsUndecided rules start a c
  undecided a b c items n v begun read kept = record {
    bytes = read.bytes;
    taken = Consumes-kept a b c read.bytes read.taken kept;
    undecided = subst ScanIsOpen (sym read.scan_is) tt;
  }

  -- the piece in which the refused line became whole was the last that was read
  pub refused_in_piece : (stop : Stop) (a b c : Option (List ℕ)) (items : List I) (n : ℕ) (v : S) (begun : List ℕ) (now : Scanned S I) (piece : List ℕ) → IsRead rules start a b (Open items n v begun) → Consumes b c piece → length piece ≤ 4096
      → Told (Err stop) (fed_all rules (Open items n v begun) piece) now → StopSays stop (IsReadUpto rules start a c) (Unit {0})
  refused_in_piece stops.NoMemory a b c items n v begun now piece read taken short told = tt
  refused_in_piece stops.Failed a b c items n v begun now piece read taken short told = tt
  refused_in_piece (stops.Refused line fault) a b c items n v begun now piece read taken short told = record {
    earlier = read.bytes;
    last = piece;
    taken = Consumes-trans a b c read.bytes piece read.taken taken;
    short = short;
    undecided = subst ScanIsOpen (sym read.scan_is) tt;
    refused = inl (scan_append rules start read.bytes piece ∙ ap (λ x. fed_all rules x piece) read.scan_is ∙ told);
  }

  upto_end : (stop : Stop) (a b : Option (List ℕ)) (items : List I) (n : ℕ) (v : S) (begun : List ℕ) → IsRead rules start a b (Open items n v begun) → IsAtEnd b → ScanEnds (Err stop) (close rules (Open items n v begun))
      → StopSays stop (IsReadUpto rules start a b) (Unit {0})
  upto_end stops.NoMemory a b items n v begun read end ends = tt
  upto_end stops.Failed a b items n v begun read end ends = tt
  upto_end (stops.Refused line fault) a b items n v begun read end ends =
      let all = append-nil read.bytes in
      let open_there = subst ScanIsOpen (sym read.scan_is) tt in
      record {
        earlier = read.bytes;
        last = [];
        taken = subst (Consumes a b) (sym all) read.taken;
        short = omega arith;
        undecided = open_there;
        refused = inr (end, subst (λ bytes. ScanIsOpen (scan rules start bytes)) (sym all) open_there, ap (judged rules start) all ∙ ap (close rules) read.scan_is ∙ ends);
      }

  -- a text that is refused as it ends was read whole
  pub refused_at_end : (r : Result (Vec I Global) Stop) (a b : Option (List ℕ)) (items : List I) (n : ℕ) (v : S) (begun : List ℕ) → IsRead rules start a b (Open items n v begun) → IsAtEnd b → ScanEnds r (close rules (Open items n v begun))
      → IfErr r (λ stop. StopSays stop (IsReadUpto rules start a b) (Unit {0}))
  refused_at_end (Ok done) a b items n v begun read end ends = tt
  refused_at_end (Err stop) a b items n v begun read end ends = upto_end stop a b items n v begun read end ends
