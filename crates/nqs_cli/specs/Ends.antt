-- The status with which the program ends.
use Rattle.nqs_store.specs.declared.fault.LoadFault.{LoadFault}
use Rattle.nqs_store.specs.declared.fault.LoadFault.TheVariants as load
use Rattle.nqs_serve.specs.declared.daemon.ServeEnd.{ServeEnd}
use Rattle.nqs_serve.specs.declared.daemon.ServeEnd.TheVariants as end
use Rattle.nqs_clients.specs.declared.status.NqsStatus.{NqsStatus}
use Rattle.nqs_clients.specs.declared.status.NqsStatus.TheVariants.{Done, NotNqs, Memory, WireFault, DiskFault, TurnsUsed, MachineFault}
use Rattle.nqs_cli.specs.declared.machine.MachineEnd.{MachineEnd}
use Rattle.nqs_cli.specs.declared.machine.MachineEnd.TheVariants as machine

-- where a part can't be had
abbrev pub status_of_end : MachineEnd → NqsStatus
status_of_end machine.Failed = MachineFault
status_of_end (machine.Memory memory) = Memory memory

-- where a host can't be booted
abbrev pub status_of_fault : LoadFault → NqsStatus
status_of_fault (load.Disk which) = DiskFault
status_of_fault (load.NotNqs which place) = NotNqs
status_of_fault (load.Memory memory) = Memory memory

-- where a host has served
abbrev pub status_of_serve : ServeEnd → NqsStatus
status_of_serve end.Shutdown = Done
status_of_serve end.TurnsUsed = TurnsUsed
status_of_serve end.WireFault = WireFault
status_of_serve (end.DiskFault which) = DiskFault
status_of_serve (end.Memory memory) = Memory memory
