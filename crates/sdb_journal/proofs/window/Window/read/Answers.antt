use Rattle.std.proofs.Common.{◌≡◌, length, vec_len, arith, rules}
use Rattle.sdb_journal.proofs.WindowLemmas.{shows_read, longer_read}
use Rattle.sdb_journal.proofs.window.Window.read.Goals as goal

pub returns-in-Ok-clause-shows : goal.returns-in-Ok-clause-shows
returns-in-Ok-clause-shows g c told =
    let bytes = c.args.self.now.bytes in
    let size : c.len.result ≡ length bytes.items = search rules in
    let start = c.args.self.now.within in
    shows_read bytes.items c.remove_front.new.bytes.items c.read_behind.new.bytes.items c.len.result c.args.self.now.start _ _ c.args.more
    ((g.D.Disk.state c.args.disk.now).seen c.args.file) size (omega (arith, size, start, c.len.ensures)) c.requires.more (c.requires.shows told) c.remove_front.ensures.items (c.in-Ok.ensures.read told)

pub returns-in-Ok-clause-all : goal.returns-in-Ok-clause-all
returns-in-Ok-clause-all g c told =
    let bytes = c.args.self.now.bytes in
    let size : c.len.result ≡ length bytes.items = search rules in
    let start = c.args.self.now.within in
    longer_read bytes.items c.remove_front.new.bytes.items c.read_behind.new.bytes.items c.len.result c.args.self.now.start _ _ c.args.more
    ((g.D.Disk.state c.args.disk.now).seen c.args.file) size (omega (arith, size, start, c.len.ensures)) c.requires.more (c.requires.shows told) c.remove_front.ensures.items (c.in-Ok.ensures.read told)
