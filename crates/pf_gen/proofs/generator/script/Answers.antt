use Rattle.std.proofs.Common.{◌≡◌, ℕ, List, ◌++◌, ap, sym, ◌∙◌, append_assoc, arith}
use Rattle.pf_gen.specs.Draws.{next_draw}
use Rattle.pf_gen.specs.Lines.{drawn_line}
use Rattle.pf_gen.specs.Generated.{closing, drawn_lines, first_line}
use Rattle.pf_gen.proofs.NextNumbers.{number_none, number_more, drawn_none, drawn_more}
use Rattle.pf_gen.proofs.generator.script.Goals as goal

pub loop-made-init : goal.loop-made-init
loop-made-init c =
    let none = drawn_none c.args.number in
    record {
      drawn = sym (number_none c.args.number);
      text = c.in_ok-put_text.ensures.ok ∙ ap (λ (l : List ℕ). l ++ first_line) c.new-out.ensures.items ∙ ap (λ (l : List ℕ). first_line ++ l) (sym none);
    }

pub loop-made-preserved : goal.loop-made-preserved
loop-made-preserved c =
    let first = c.args.number in
    let k = c.loop-made.made in
    let drawn = c.after-drawn.ensures ∙ ap next_draw c.loop-made.invariant.drawn ∙ sym (number_more first k) in
    record {
      drawn = drawn;
      text = c.in_ok-put_line.ensures
          ∙ ap (λ (l : List ℕ). l ++ drawn_line c.after-drawn.result) c.loop-made.invariant.text
          ∙ append_assoc first_line (drawn_lines first k) (drawn_line c.after-drawn.result)
          ∙ ap (λ (x : ℕ). first_line ++ (drawn_lines first k ++ drawn_line x)) drawn
          ∙ ap (λ (l : List ℕ). first_line ++ l) (sym (drawn_more first k));
    }

pub returns : goal.returns
returns c =
    let first = c.args.number in
    let all : c.loop-made.made ≡ 2000 = omega arith in
    c.in_ok-put_text-2.ensures.ok
    ∙ ap (λ (l : List ℕ). l ++ closing) (c.loop-made.invariant.text ∙ ap (λ (n : ℕ). first_line ++ drawn_lines first n) all)
    ∙ append_assoc first_line (drawn_lines first 2000) closing
