use Rattle.std.proofs.Common.{Ok, sym, ◌∙◌, ap, arith}
use Rattle.std.proofs.lemmas.List.{take_all}
use Rattle.std.specs.List.{list_all}
use Rattle.sdb_base.specs.Names.{is_domain_char}
use Rattle.sdb_format.proofs.PassingLaws.{passing_there, passing_short, passing_bad}
use Rattle.sdb_record.proofs.ReadLemmas.{letters_utf8}
use Rattle.sdb_record.proofs.texts.read_domain_chars.Goals as goal

pub returns-then-are_domain_chars-clause-err : goal.returns-then-are_domain_chars-clause-err
returns-then-are_domain_chars-clause-err c =
    passing_short is_domain_char c.args.count c.args.bytes.now (sym c.are_domain_chars.ensures ∙ c.if-are_domain_chars.true) c.if-bytes-count.true

pub returns-else-are_domain_chars-clause-err : goal.returns-else-are_domain_chars-clause-err
returns-else-are_domain_chars-clause-err c =
    passing_bad is_domain_char c.args.count c.args.bytes.now
    (ap (list_all is_domain_char) (take_all c.args.count c.args.bytes.now (omega arith)) ∙ sym c.are_domain_chars.ensures ∙ c.if-are_domain_chars.false)

pub returns-then-not-are_domain_chars-clause-err : goal.returns-then-not-are_domain_chars-clause-err
returns-then-not-are_domain_chars-clause-err c =
    passing_bad is_domain_char c.args.count c.args.bytes.now
    (ap (list_all is_domain_char) (sym c.split_at.ensures.front) ∙ sym c.are_domain_chars-2.ensures ∙ c.if-not-are_domain_chars.true)

pub unreachable-requires : goal.unreachable-requires
unreachable-requires c = c.in_default.ensures.cases.0 (letters_utf8 c.split_at.result.0.now (sym c.are_domain_chars-2.ensures ∙ c.if-not-are_domain_chars.false))

pub returns-clause-ok : goal.returns-clause-ok
returns-clause-ok c =
    passing_there is_domain_char c.args.count c.args.bytes.now
    (ap (list_all is_domain_char) (sym c.split_at.ensures.front) ∙ sym c.are_domain_chars-2.ensures ∙ c.if-not-are_domain_chars.false) (omega arith)
    ∙ (λ k. Ok ((sym c.split_at.ensures.front ∙ sym c.in-Ok.ensures.cases.0) k, sym c.split_at.ensures.back k))
