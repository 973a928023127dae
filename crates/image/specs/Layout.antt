-- The places of the working array by their names; the code has the same in src/layout.rt.
use Rattle.std.specs.Prelude.{ℕ}

-- 340h to 346h and 350h to 353h, 358h as written: document 01, "Registers"
abbrev pub scsiseq_place : ℕ
scsiseq_place = 0

abbrev pub sxfrctl0_place : ℕ
sxfrctl0_place = 1

abbrev pub sxfrctl1_place : ℕ
sxfrctl1_place = 2

abbrev pub scsisig_place : ℕ
scsisig_place = 3

abbrev pub scsirate_place : ℕ
scsirate_place = 4

abbrev pub scsiid_place : ℕ
scsiid_place = 5

abbrev pub scsidat_place : ℕ
scsidat_place = 6

abbrev pub simode0_place : ℕ
simode0_place = 7

abbrev pub simode1_place : ℕ
simode1_place = 8

abbrev pub dmacntrl0_place : ℕ
dmacntrl0_place = 9

abbrev pub dmacntrl1_place : ℕ
dmacntrl1_place = 10

abbrev pub brstcntrl_place : ℕ
brstcntrl_place = 11

-- the statuses, then the latches, most significant first: SPIORDY, SCSIRSTI, BUSFREE, SCSIPERR, PHASECHG, REQINIT, SYNCERR, FWERR
abbrev pub status_place : ℕ
status_place = 12

abbrev pub latches_place : ℕ
latches_place = 13

-- the lines that others drive: data; parity and RST; the rest in the order of 343h
abbrev pub data_place : ℕ
data_place = 14

abbrev pub upper_place : ℕ
upper_place = 15

abbrev pub control_place : ℕ
control_place = 16

-- what is kept as a number
abbrev pub offset_place : ℕ
offset_place = 17

abbrev pub ack_place : ℕ
ack_place = 18

abbrev pub last_place : ℕ
last_place = 19

abbrev pub quiet_place : ℕ
quiet_place = 20

abbrev pub identity_place : ℕ
identity_place = 21

abbrev pub pointer_place : ℕ
pointer_place = 22

abbrev pub kept_place : ℕ
kept_place = 23

-- R-1: SELDO, SELDI, SELTO, noted, SELINGO, and in the lowest three bits the number of the sequencer's phase
abbrev pub sequencer_place : ℕ
sequencer_place = 24

-- in the lowest four bits the latches of SELDO, SELDI, SELINGO, SELTO
abbrev pub selection_latches_place : ℕ
selection_latches_place = 25

-- the ticks spent in the phase, the highest byte first; what 345h reads
abbrev pub ticks_high_place : ℕ
ticks_high_place = 26

abbrev pub ticks_middle_place : ℕ
ticks_middle_place = 27

abbrev pub ticks_low_place : ℕ
ticks_low_place = 28

abbrev pub selid_place : ℕ
selid_place = 29

-- how many bytes the FIFOs hold
abbrev pub scsi_count_place : ℕ
scsi_count_place = 30

abbrev pub host_count_place : ℕ
host_count_place = 31

-- the counter, the highest byte first
abbrev pub counter_high_place : ℕ
counter_high_place = 32

abbrev pub counter_middle_place : ℕ
counter_middle_place = 33

abbrev pub counter_low_place : ℕ
counter_low_place = 34

-- the SCSI FIFO, the stack, the host FIFO
abbrev pub scsi_bytes_place : ℕ
scsi_bytes_place = 35

abbrev pub stack_bytes_place : ℕ
stack_bytes_place = 43

abbrev pub host_bytes_place : ℕ
host_bytes_place = 75

abbrev pub image_size : ℕ
image_size = 203
