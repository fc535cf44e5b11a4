use Rattle.std.proofs.Common.{◌≡◌, ◌++◌, length, ap, arith, ◌∙◌}
use Rattle.sdb_http.specs.Responses.{phrase_of}
use Rattle.sdb_tables.specs.Faults.{fault_of}
use Rattle.sdb_reply.specs.Bodies.{body_text}
use Rattle.sdb_reply.specs.Faults.{head_text, refusal_text}
use Rattle.sdb_reply.proofs.FaultLemmas.{at_ok, head-length, refusal-length, row-short}
use Rattle.sdb_reply.proofs.faults.fault_into.Goals as goal

pub refusal_length-requires : goal.refusal_length-requires
refusal_length-requires c =
    omega (arith, row-short c.args.refusal.now, ap (λ f. length f.code) c.fault_row-row.ensures.row, ap (λ f. length f.message) c.fault_row-row.ensures.row)

-- the head of the response is short
head_fits : goal.unwrap-requires
head_fits c =
    let row = c.fault_row-row.ensures.row in
    let size = c.refusal_length.result in
    let short = row-short c.args.refusal.now in
    let code : length c.fault_row-row.result.code.now ≡ length (fault_of c.args.refusal.now).code = ap (λ f. length f.code) row in
    let message : length c.fault_row-row.result.message.now ≡ length (fault_of c.args.refusal.now).message = ap (λ f. length f.message) row in
    let phrase : length (phrase_of c.fault_row-row.result.status) ≡ length (phrase_of (fault_of c.args.refusal.now).status) = ap (λ f. length (phrase_of f.status)) row in
    let head = head-length c.fault_row-row.result.status size c.args.close (omega (arith, c.refusal_length.ensures)) in
    c.append_head.ensures.room (omega (arith, c.requires.room))

pub unwrap-requires : goal.unwrap-requires
unwrap-requires c = head_fits c

pub unwrap-requires-2 : goal.unwrap-requires-2
unfolding body_text
unwrap-requires-2 c =
    let row = c.fault_row-row.ensures.row in
    let size = c.refusal_length.result in
    let short = row-short c.args.refusal.now in
    let code : length c.fault_row-row.result.code.now ≡ length (fault_of c.args.refusal.now).code = ap (λ f. length f.code) row in
    let message : length c.fault_row-row.result.message.now ≡ length (fault_of c.args.refusal.now).message = ap (λ f. length f.message) row in
    let phrase : length (phrase_of c.fault_row-row.result.status) ≡ length (phrase_of (fault_of c.args.refusal.now).status) = ap (λ f. length (phrase_of f.status)) row in
    let head = head-length c.fault_row-row.result.status size c.args.close (omega (arith, c.refusal_length.ensures)) in
    let left = at_ok _ c.append_head.result _ c.unwrap.ensures c.append_head.ensures.spare in
    c.append_refused.ensures.room (omega (arith, c.requires.room, left, refusal-length c.args.refusal.now c.args.id.now))

pub returns : goal.returns
unfolding body_text
returns c =
    let row = c.fault_row-row.ensures.row in
    let refusal = c.args.refusal.now in
    let close = c.args.close in
    let size = c.refusal_length.result in
    let code : length c.fault_row-row.result.code.now ≡ length (fault_of refusal).code = ap (λ f. length f.code) row in
    let message : length c.fault_row-row.result.message.now ≡ length (fault_of refusal).message = ap (λ f. length f.message) row in
    let status : c.fault_row-row.result.status ≡ (fault_of refusal).status = ap (λ f. f.status) row in
    let size_is : size ≡ length (refusal_text refusal c.args.id.now) = omega (arith, c.refusal_length.ensures, refusal-length refusal c.args.id.now) in
    let head = at_ok _ c.append_head.result _ c.unwrap.ensures c.append_head.ensures.ok in
    let body = at_ok _ c.append_refused.result _ c.unwrap-2.ensures c.append_refused.ensures.ok in
    body
    ∙ ap (λ l. l ++ refusal_text refusal c.args.id.now)
    (head ∙ ap (λ l. l ++ head_text c.fault_row-row.result.status size close) c.requires.empty ∙ ap (λ s. head_text s size close) status ∙ ap (λ n. head_text (fault_of refusal).status n close) size_is)
