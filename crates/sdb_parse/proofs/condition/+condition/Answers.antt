use Rattle.std.proofs.Common.{◌≡◌, ◌∙◌, suc, ◌-◌, ◌++◌, ◌∷◌, [], List, Some, true, arith, subst, sym, ap, length-append}
use Rattle.std.proofs.lemmas.Bool.{false≢true}
use Rattle.sdb_parse.specs.declared.expr.Expr.{Expr}
use Rattle.sdb_parse.specs.declared.expr.Expr.TheVariants as tree
use Rattle.sdb_parse.specs.Reading.{Reads, sees}
use Rattle.sdb_parse.specs.Conditions.{grouped_at, joined_at, member_at, negated_at, separator}
use Rattle.sdb_parse.proofs.ListedLemmas.{passed_on, began, began_badly, went, went_badly}
use Rattle.sdb_parse.proofs.ConditionLemmas.{Members, unary_not, unary_open, unary_plain, negated_none, negated_bare, negated_badly, negated_done, grouped_none, grouped_bare, grouped_badly, grouped_unclosed, grouped_done, joined_badly, joined_one, joined_several}
use Rattle.sdb_parse.proofs.condition.+condition.Goals as goal

pub read_grouped-returns-then-allowed-eq0-clause-value : goal.read_grouped-returns-then-allowed-eq0-clause-value
read_grouped-returns-then-allowed-eq0-clause-value t c = λ _. grouped_none c.args.allowed c.args.cursor.now (omega arith)

pub read_grouped-returns-in_err-expect-clause-value : goal.read_grouped-returns-in_err-expect-clause-value
read_grouped-returns-in_err-expect-clause-value t c =
    let more : c.args.allowed ≡ suc (c.args.allowed - 1) = omega arith in
    passed_on (grouped_at c.args.allowed c.args.cursor.now) c.from_residual.result c.expect.new.cursor c.in_err-expect.field-0.0 c.from_residual.ensures.1
    (λ syntax. grouped_bare c.args.allowed (c.args.allowed - 1) more c.args.cursor.now (c.in_err-expect.ensures.value syntax))

pub read_grouped-returns-in_err-inner-clause-value : goal.read_grouped-returns-in_err-inner-clause-value
read_grouped-returns-in_err-inner-clause-value t c =
    let more : c.args.allowed ≡ suc (c.args.allowed - 1) = omega arith in
    passed_on (grouped_at c.args.allowed c.args.cursor.now) c.from_residual-in_err-inner.result c.read_joined.new.cursor c.in_err-inner.field-0.0 c.from_residual-in_err-inner.ensures.1
    (λ syntax. grouped_badly c.args.allowed (c.args.allowed - 1) more c.args.cursor.now c.expect.new.cursor c.in_ok-expect.ensures.value (c.in_err-inner.ensures.value syntax))

pub read_grouped-returns-in_err-expect-2-clause-value : goal.read_grouped-returns-in_err-expect-2-clause-value
read_grouped-returns-in_err-expect-2-clause-value t c =
    let more : c.args.allowed ≡ suc (c.args.allowed - 1) = omega arith in
    passed_on (grouped_at c.args.allowed c.args.cursor.now) c.from_residual-in_err-expect-2.result c.expect-2.new.cursor c.in_err-expect-2.field-0.0 c.from_residual-in_err-expect-2.ensures.1
    (λ syntax. grouped_unclosed c.args.allowed (c.args.allowed - 1) more c.args.cursor.now c.expect.new.cursor c.read_joined.new.cursor c.in_ok-inner.inner c.in_ok-expect.ensures.value
    c.in_ok-inner.ensures.value (c.in_err-expect-2.ensures.value syntax))

pub read_grouped-returns-clause-value : goal.read_grouped-returns-clause-value
read_grouped-returns-clause-value t c =
    let more : c.args.allowed ≡ suc (c.args.allowed - 1) = omega arith in
    grouped_done c.args.allowed (c.args.allowed - 1) more c.args.cursor.now c.expect.new.cursor c.read_joined.new.cursor c.expect-2.new.cursor c.in_ok-inner.inner c.in_ok-expect.ensures.value
    c.in_ok-inner.ensures.value c.in_ok-expect-2.ensures.value

pub read_negated-returns-then-allowed-eq0-clause-value : goal.read_negated-returns-then-allowed-eq0-clause-value
read_negated-returns-then-allowed-eq0-clause-value t c = λ _. negated_none c.args.allowed c.args.cursor.now (omega arith)

pub read_negated-returns-in_err-expect-clause-value : goal.read_negated-returns-in_err-expect-clause-value
read_negated-returns-in_err-expect-clause-value t c =
    let more : c.args.allowed ≡ suc (c.args.allowed - 1) = omega arith in
    passed_on (negated_at c.args.allowed c.args.cursor.now) c.from_residual.result c.expect.new.cursor c.in_err-expect.field-0.0 c.from_residual.ensures.1
    (λ syntax. negated_bare c.args.allowed (c.args.allowed - 1) more c.args.cursor.now (c.in_err-expect.ensures.value syntax))

pub read_negated-returns-in_err-negated-clause-value : goal.read_negated-returns-in_err-negated-clause-value
read_negated-returns-in_err-negated-clause-value t c =
    let more : c.args.allowed ≡ suc (c.args.allowed - 1) = omega arith in
    passed_on (negated_at c.args.allowed c.args.cursor.now) c.from_residual-in_err-negated.result c.read_unary.new.cursor c.in_err-negated.field-0.0 c.from_residual-in_err-negated.ensures.1
    (λ syntax. negated_badly c.args.allowed (c.args.allowed - 1) more c.args.cursor.now c.expect.new.cursor c.in_ok-expect.ensures.value (c.in_err-negated.ensures.value syntax))

pub read_negated-returns-clause-value : goal.read_negated-returns-clause-value
read_negated-returns-clause-value t c =
    let more : c.args.allowed ≡ suc (c.args.allowed - 1) = omega arith in
    negated_done c.args.allowed (c.args.allowed - 1) more c.args.cursor.now c.expect.new.cursor c.read_unary.new.cursor c.in_ok-negated.negated c.in_ok-expect.ensures.value c.in_ok-negated.ensures.value
    ∙ ap (λ (e : Expr). Some (tree.Not e, c.read_unary.new.cursor)) (sym c.in_ok-new.ensures)

pub read_unary-returns-then-sees-clause-value : goal.read_unary-returns-then-sees-clause-value
read_unary-returns-then-sees-clause-value t c =
    subst (λ g. Reads g c.read_negated.result c.read_negated.new.cursor) (sym (unary_not c.args.allowed c.args.cursor.now (sym c.sees.ensures.value ∙ c.if-sees.true))) c.read_negated.ensures.value

pub read_unary-returns-then-sees-2-clause-value : goal.read_unary-returns-then-sees-2-clause-value
read_unary-returns-then-sees-2-clause-value t c =
    subst (λ g. Reads g c.read_grouped.result c.read_grouped.new.cursor)
    (sym (unary_open c.args.allowed c.args.cursor.now (sym c.sees.ensures.value ∙ c.if-sees.false) (sym c.sees-2.ensures.value ∙ c.if-sees-2.true))) c.read_grouped.ensures.value

pub read_unary-returns-clause-value : goal.read_unary-returns-clause-value
read_unary-returns-clause-value t c =
    subst (λ g. Reads g c.read_predicate.result c.read_predicate.new.cursor)
    (sym (unary_plain c.args.allowed c.args.cursor.now (sym c.sees.ensures.value ∙ c.if-sees.false) (sym c.sees-2.ensures.value ∙ c.if-sees-2.false))) c.read_predicate.ensures.value

pub read_joined-returns-in_err-first-clause-value : goal.read_joined-returns-in_err-first-clause-value
read_joined-returns-in_err-first-clause-value t c =
    passed_on (joined_at c.args.joint c.args.allowed c.args.cursor.now) c.from_residual.result c.read_member.new.cursor c.in_err-first.field-0.0 c.from_residual.ensures.1
    (λ syntax. joined_badly c.args.joint c.args.allowed c.args.cursor.now
    (began_badly (separator c.args.joint) (member_at c.args.joint c.args.allowed) c.args.cursor.now (c.in_err-first.ensures.value syntax)))

pub read_joined-returns-then-not-sees-clause-value : goal.read_joined-returns-then-not-sees-clause-value
read_joined-returns-then-not-sees-clause-value t c =
    joined_one c.args.joint c.args.allowed c.args.cursor.now c.read_member.new.cursor c.in_ok-first.first c.in_ok-first.ensures.value c.in_ok-first.ensures.shorter
    (ap (λ s. sees s c.read_member.new.cursor) (sym c.separator-separator.ensures) ∙ (sym c.sees.ensures.value ∙ c.if-not-sees.true))

pub read_joined-more-init : goal.read_joined-more-init
read_joined-more-init t c =
    let first = c.in_ok-first.first in
    let seen : sees (separator c.args.joint) c.read_member.new.cursor ≡ true =
    ap (λ s. sees s c.read_member.new.cursor) (sym c.separator-separator.ensures) ∙ (sym c.sees.ensures.value ∙ c.if-not-sees.false) in
    subst (Members c.args.joint c.args.allowed c.args.cursor.now c.read_member.new.cursor) (sym (c.in_ok-push.ensures.ok ∙ ap (λ (l : List Expr). l ++ first ∷ []) c.new-members.ensures))
    (record {
      going = began (separator c.args.joint) (member_at c.args.joint c.args.allowed) c.args.cursor.now first c.read_member.new.cursor c.in_ok-first.ensures.value c.in_ok-first.ensures.shorter;
      some = omega arith;
      two = λ none. absurd (false≢true (sym none ∙ seen));
    })

pub read_joined-returns-in_err-read_member-clause-value : goal.read_joined-returns-in_err-read_member-clause-value
read_joined-returns-in_err-read_member-clause-value t c =
    passed_on (joined_at c.args.joint c.args.allowed c.args.cursor.now) c.from_residual-in_err-read_member.result c.read_member-in-more.new.cursor c.in_err-read_member.field-0.0
    c.from_residual-in_err-read_member.ensures.1
    (λ syntax. joined_badly c.args.joint c.args.allowed c.args.cursor.now
    (went_badly (separator c.args.joint) (member_at c.args.joint c.args.allowed) c.args.cursor.now c.more.cursor c.more.members c.more.invariant.going (c.sees-in-more.ensures.some c.more-test.true)
    (ap (λ s. sees s c.more.cursor) (sym c.separator-separator.ensures) ∙ (sym c.sees-in-more.ensures.value ∙ c.more-test.true))
    (ap (member_at c.args.joint c.args.allowed) (sym c.skip.ensures.rest) ∙ c.in_err-read_member.ensures.value syntax)))

pub read_joined-more-preserved : goal.read_joined-more-preserved
read_joined-more-preserved t c =
    let one = c.in_ok-read_member.field-0 in
    subst (Members c.args.joint c.args.allowed c.args.cursor.now c.read_member-in-more.new.cursor) (sym c.in_ok-push-2.ensures.ok)
    (record {
      going = went (separator c.args.joint) (member_at c.args.joint c.args.allowed) c.args.cursor.now c.more.cursor c.more.members c.more.invariant.going (c.sees-in-more.ensures.some c.more-test.true)
          (ap (λ s. sees s c.more.cursor) (sym c.separator-separator.ensures) ∙ (sym c.sees-in-more.ensures.value ∙ c.more-test.true)) one c.read_member-in-more.new.cursor
          (ap (member_at c.args.joint c.args.allowed) (sym c.skip.ensures.rest) ∙ c.in_ok-read_member.ensures.value) (omega (arith, c.skip.ensures.len, c.in_ok-read_member.ensures.shorter));
      some = omega (arith, length-append c.more.members (one ∷ []), c.more.invariant.some);
      two = λ _. omega (arith, length-append c.more.members (one ∷ []), c.more.invariant.some);
    })

pub read_joined-returns-clause-value : goal.read_joined-returns-clause-value
read_joined-returns-clause-value t c =
    joined_several c.args.joint c.args.allowed c.args.cursor.now c.more.cursor c.more.members c.more.invariant
    (ap (λ s. sees s c.more.cursor) (sym c.separator-separator.ensures) ∙ (sym c.sees-in-more.ensures.value ∙ c.more-test.false))
    ∙ ap (λ (e : Expr). Some (e, c.more.cursor)) (sym c.joined_by.ensures)
