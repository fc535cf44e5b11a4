use Rattle.std.proofs.Common.{◌<◌, length, arith}
use Rattle.sdb_http.proofs.FieldLemmas.{wanted_more}
use Rattle.sdb_http.proofs.fields.find_wanted.Goals as goal

pub loop-header-preserved : goal.loop-header-preserved
loop-header-preserved c =
    let within : c.loop-header.header-index < length c.args.headers.now = omega arith in
    let e = c.with_header-wanted.ensures in
    wanted_more c.args.head.now c.args.headers.now c.loop-header.header-index _ c.loop-header.wanted c.with_header-wanted.result within c.requires c.loop-header.invariant
    (record { transfer_encoding = e.transfer_encoding; content_length = e.content_length; host = e.host; close = e.close })
