-- What contracts see of the records that are kept.
use Rattle.sb_feed.specs.Jobs.{Record}
use Rattle.sb_plan.specs.declared.parts.Entry.{Entry}

abbrev pub entry_record : {E : Type 0} → Entry E → Record E
entry_record entry = record { batch = entry.batch; parts = entry.parts.items }
