-- Faults of what a folder is loaded from, as faults of the load.
use Rattle.swh_outside.specs.declared.fault.OutFault.{OutFault}
use Rattle.swh_outside.specs.declared.fault.OutFault.TheVariants as out
use Rattle.swh_listing.specs.declared.fault.ListingFault.{ListingFault}
use Rattle.swh_listing.specs.declared.fault.ListingFault.TheVariants as listing
use Rattle.swh_dirload.specs.declared.fault.DirFault.{DirFault}
use Rattle.swh_dirload.specs.declared.fault.DirFault.TheVariants.{BadModes, Limit, ReadFault, Memory}

-- a folder that failed, or memory that ran out
abbrev pub out_fault : OutFault → DirFault
out_fault out.Failed = ReadFault
out_fault out.Memory = Memory

-- a listing that is not read
abbrev pub listing_fault : ListingFault → DirFault
listing_fault (listing.BadModes line) = BadModes line
listing_fault (listing.Limit which number) = Limit which number
listing_fault listing.ReadFault = ReadFault
listing_fault listing.Memory = Memory
