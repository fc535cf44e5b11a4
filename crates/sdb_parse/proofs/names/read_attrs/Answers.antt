use Rattle.std.proofs.Common.{◌∙◌, ◌++◌, ◌∷◌, [], List, ℕ, arith, subst, sym, ap}
use Rattle.sdb_parse.specs.declared.sign.Sign.TheVariants as sign
use Rattle.sdb_parse.specs.Reading.{attr_at, listed}
use Rattle.sdb_parse.proofs.ListedLemmas.{Going, passed_on, began, began_badly, went, went_badly, ended}
use Rattle.sdb_parse.proofs.names.read_attrs.Goals as goal

pub returns-in_err-read_attr-clause-value : goal.returns-in_err-read_attr-clause-value
returns-in_err-read_attr-clause-value c =
    passed_on (listed sign.Comma attr_at c.args.cursor.now) c.from_residual.result c.read_attr.new.cursor c.in_err-read_attr.field-0.0 c.from_residual.ensures.1
    (λ syntax. began_badly sign.Comma attr_at c.args.cursor.now (c.in_err-read_attr.ensures.value syntax))

pub more-init : goal.more-init
more-init c =
    let one = c.in_ok-read_attr.field-0 in
    subst (Going sign.Comma attr_at c.args.cursor.now c.read_attr.new.cursor) (sym (c.in_ok-push.ensures.ok ∙ ap (λ (l : List (List ℕ)). l ++ one ∷ []) c.new-attrs.ensures))
    (began sign.Comma attr_at c.args.cursor.now one c.read_attr.new.cursor c.in_ok-read_attr.ensures.value c.in_ok-read_attr.ensures.shorter)

pub returns-in_err-read_attr-2-clause-value : goal.returns-in_err-read_attr-2-clause-value
returns-in_err-read_attr-2-clause-value c =
    passed_on (listed sign.Comma attr_at c.args.cursor.now) c.from_residual-in_err-read_attr-2.result c.read_attr-in-more.new.cursor c.in_err-read_attr-2.field-0.0 c.from_residual-in_err-read_attr-2.ensures.1
    (λ syntax. went_badly sign.Comma attr_at c.args.cursor.now c.more.cursor c.more.attrs c.more.invariant (c.sees.ensures.some c.more-test.true)
    (sym c.sees.ensures.value ∙ c.more-test.true) (ap attr_at (sym c.skip.ensures.rest) ∙ c.in_err-read_attr-2.ensures.value syntax))

pub more-preserved : goal.more-preserved
more-preserved c =
    subst (Going sign.Comma attr_at c.args.cursor.now c.read_attr-in-more.new.cursor) (sym c.in_ok-push-2.ensures.ok)
    (went sign.Comma attr_at c.args.cursor.now c.more.cursor c.more.attrs c.more.invariant (c.sees.ensures.some c.more-test.true)
    (sym c.sees.ensures.value ∙ c.more-test.true) c.in_ok-read_attr-2.field-0 c.read_attr-in-more.new.cursor
    (ap attr_at (sym c.skip.ensures.rest) ∙ c.in_ok-read_attr-2.ensures.value) (omega (arith, c.skip.ensures.len, c.in_ok-read_attr-2.ensures.shorter)))

pub returns-clause-value : goal.returns-clause-value
returns-clause-value c =
    ended sign.Comma attr_at c.args.cursor.now c.more.cursor c.more.attrs c.more.invariant (sym c.sees.ensures.value ∙ c.more-test.false)
