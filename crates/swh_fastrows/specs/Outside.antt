-- How a reader is refused whose source failed, or for which memory ran out.
use Rattle.swh_fastrows.specs.declared.fail.Outside.{Outside}
use Rattle.swh_fastrows.specs.declared.fail.Outside.TheVariants.{Failed, Memory}
use Rattle.swh_fastrows.specs.declared.fail.ReadFail.{ReadFail}
use Rattle.swh_fastrows.specs.declared.fail.ReadFail.TheVariants.{ReadFault, Memory as NoMemory}

abbrev pub fail_of : Outside → ReadFail
fail_of Failed = ReadFault
fail_of Memory = NoMemory
