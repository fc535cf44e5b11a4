use Rattle.std.proofs.Common.{[], ◌∷◌, ◌++◌, Some, None, string_bytes, ap, ◌∙◌, rules}
use Rattle.std.proofs.lemmas.Str.Pattern.{split_parts}
use Rattle.sdb_parse.specs.Printed.{enclosed}
use Rattle.sdb_parse.proofs.EnclosedLemmas.{all_written, part_written, after_utf8}
use Rattle.sdb_parse.proofs.printer.Printer.enclosed.Goals as goal

pub split_once-requires-text-self : goal.split_once-requires-text-self
split_once-requires-text-self c κs = c.part.invariant.utf8

pub part-preserved : goal.part-preserved
part-preserved c =
    let parts = split_parts c.args.sign c.part.left.now (Some (c.in-Some.before, c.in-Some.after)) c.in-Some.ensures.cases c.requires in
    let one = c.push-in-Some.ensures.ascii c.requires in
    let two = c.push-in-Some-2.ensures.ascii c.requires in
    record {
      written = part_written (c.args.self.now ++ enclosed c.args.sign c.args.text.now) (string_bytes c.part.self-inside.line) (string_bytes c.push_str.new.self) (string_bytes c.push-in-Some.new.self) (string_bytes c.push-in-Some-2.new.self)
          c.part.left.now c.in-Some.before.now c.in-Some.after.now c.args.sign c.part.invariant.written parts.0 parts.1 c.in_ok-push_str-in-Some.ensures.bytes
          (c.in_ok-push-in-Some.ensures.bytes ∙ ap (λ l. string_bytes c.push_str.new.self ++ l) one) (c.in_ok-push-in-Some-2.ensures.bytes ∙ ap (λ l. string_bytes c.push-in-Some.new.self ++ l) two);
      utf8 = after_utf8 c.part.left.now c.in-Some.before.now c.in-Some.after.now c.args.sign c.requires parts.0 c.part.invariant.utf8;
    }

pub push_str-requires-2-text-string : goal.push_str-requires-2-text-string
push_str-requires-2-text-string c κs = c.part.invariant.utf8

pub returns : goal.returns
returns c =
    all_written (c.args.self.now ++ enclosed c.args.sign c.args.text.now) (string_bytes c.part.self-inside.line) (string_bytes c.push_str-2.new.self) (string_bytes c.push-2.new.self) c.part.left.now c.args.sign
    c.part.invariant.written (split_parts c.args.sign c.part.left.now None c.in-None.ensures.cases c.requires) c.in_ok-push_str.ensures.bytes
    (c.in_ok-push-2.ensures.bytes ∙ ap (λ l. string_bytes c.push_str-2.new.self ++ l) (c.push-2.ensures.ascii c.requires))
