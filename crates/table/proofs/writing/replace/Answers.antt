-- `replace` meets its contract. Assumes nothing.
use Rattle.std.proofs.Common.{rules}
use Rattle.table.proofs.PadLaws.{replace_written}
use Rattle.table.proofs.writing.replace.Goals as goal

pub returns : goal.returns
returns c =
    let a = c.args in
    replace_written a.params a.links.now a.id.0 a.level.0 c.list_start-start.result c.slots_len.result a.ids.now c.copy_from_slice.new.self c.fill.new.self
    c.requires.0 c.requires.1 c.list_start-start.ensures c.slots_len.ensures c.copy_from_slice.ensures.after (c.fill.ensures.after (search rules))
