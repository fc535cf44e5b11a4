use Rattle.std.proofs.Common.{◌+◌, ◌-◌, drop, get_or, sym, ◌∙◌, ap, arith}
use Rattle.std.proofs.lemmas.Bool.{lt-leb}
use Rattle.sdb_format.specs.declared.fault.FormatFault.TheVariants.{Short, Bad}
use Rattle.sdb_format.specs.Letters.{with_letter}
use Rattle.sdb_format.proofs.LetterLaws.{step_is, step_fails, step_too_long, at_next, none_left}
use Rattle.sdb_format.proofs.letters.fault_of.Goals as goal

pub returns-then-left-next : goal.returns-then-left-next
returns-then-left-next c =
    c.loop-byte.invariant.same Bad
    (at_next c.loop-byte.place c.loop-byte.left c.loop-byte.byte-index c.args.bytes.now (omega arith) (omega arith)
    ∙ step_too_long c.loop-byte.place c.in-Some.next (c.loop-byte.left - 1) (get_or c.args.bytes.now c.loop-byte.byte-index 0) (drop (c.loop-byte.byte-index + 1) c.args.bytes.now) (sym c.after_byte.ensures ∙ c.in-Some.is) (lt-leb _ _ c.if-left-next.true))

pub returns-in-None : goal.returns-in-None
returns-in-None c =
    c.loop-byte.invariant.same Bad
    (at_next c.loop-byte.place c.loop-byte.left c.loop-byte.byte-index c.args.bytes.now (omega arith) (omega arith)
    ∙ step_fails c.loop-byte.place (c.loop-byte.left - 1) (get_or c.args.bytes.now c.loop-byte.byte-index 0) (drop (c.loop-byte.byte-index + 1) c.args.bytes.now) (sym c.after_byte.ensures ∙ c.in-None.is))

pub loop-byte-preserved : goal.loop-byte-preserved
loop-byte-preserved c = record {
  size = omega arith;
  fits = omega arith;
  same = λ fault e.
      c.loop-byte.invariant.same fault
      (at_next c.loop-byte.place c.loop-byte.left c.loop-byte.byte-index c.args.bytes.now (omega arith) (omega arith)
      ∙ step_is c.loop-byte.place c.in-Some.next (c.loop-byte.left - 1) (get_or c.args.bytes.now c.loop-byte.byte-index 0) (drop (c.loop-byte.byte-index + 1) c.args.bytes.now) (sym c.after_byte.ensures ∙ c.in-Some.is) (omega arith)
      ∙ ap (with_letter (get_or c.args.bytes.now c.loop-byte.byte-index 0)) e);
}

pub returns : goal.returns
returns c = c.loop-byte.invariant.same Short (none_left c.loop-byte.place c.loop-byte.left c.loop-byte.byte-index c.args.bytes.now (omega arith) (omega arith))
