-- R-1: the sequencer, which selects and answers a reselection. What its phases drive stands with the lines (specs/Seen.antt).
use Rattle.std.specs.Prelude.{ℕ, ◌+◌, ◌*◌, ◌/◌, ◌^◌, Bool, true, false, not, ◌&&◌, ◌||◌, cond, [], ◌∷◌, leb, ltb, get_or}
use Rattle.rules.specs.Numbers.{bit, one}
use Rattle.rules.specs.State.{State}
use Rattle.rules.specs.Seen.{is_phase, rst_seen, sel_seen, bsy_seen}
use Rattle.rules.specs.Interrupts.{latched}
use Rattle.rules.specs.declared.registers.Registers.{Registers}
use Rattle.rules.specs.declared.chip.Phase.{Phase}
use Rattle.rules.specs.declared.chip.Phase.TheVariants.{Idle, Waiting, Arbitrating, Clearing, Selecting, Holding, Answering, Answered}
use Rattle.rules.specs.declared.chip.Selection.{Selection}
use Rattle.rules.specs.declared.chip.Sequencer.{Sequencer}
use Rattle.rules.specs.declared.chip.Sequenced.{Sequenced}

-- THE DELAYS, in ticks: "bus free delay 16 ticks, arbitration 48, bus clear 16, bus settle 8"
abbrev pub bus_free_delay : ℕ
bus_free_delay = 16

abbrev pub arbitration_delay : ℕ
arbitration_delay = 48

-- "24 (16 and 8)": bus clear and bus settle
abbrev pub clearing_delay : ℕ
clearing_delay = 24

abbrev pub settle_delay : ℕ
settle_delay = 8

-- "the limit of STIMESEL (0: 5,120,000; 1: 2,560,000; 2: 1,280,000; 3: 640,000)"
unfoldable pub timeout : Registers → ℕ
timeout r =
    get_or (5120000 ∷ 2560000 ∷ 1280000 ∷ 640000 ∷ []) (one r.sxfrctl1.stimesel1 * 2 + one r.sxfrctl1.stimesel0) 0

-- "Asked: ENSELO set and TEMODEO clear (340h)."
abbrev pub asked_by : Bool → Bool → Bool
asked_by enselo temodeo = enselo && not temodeo

unfoldable pub selection_asked : Registers → Bool
selection_asked r = asked_by r.scsiseq.enselo r.scsiseq.temodeo

-- "Called: ENRESELI, others drive SEL and IO and the data bit of OID, BSY not seen": it is asked only where the sequencer itself
-- drives no BSY
unfoldable pub called : State → Bool
called s =
    s.registers.scsiseq.enrseli && s.lines.sel && s.lines.io && bit s.lines.byte s.registers.scsiid.oid
    && not (s.lines.bsy || s.registers.scsisig.bsyo)

-- "others drive a data bit above OID"
unfoldable pub higher_id : State → Bool
higher_id s = ltb 0 (s.lines.byte / 2 ^ (s.registers.scsiid.oid + 1))

-- the latch of a status that becomes 1, by document 01's rule of latches: it sets if the status was 0 and is enabled
abbrev pub latch_raised : Bool → Bool → Bool → Bool
latch_raised enable status kept =
    latched (record { kept = kept; enable = enable; enabled_before = true; status = status; raised = true })

-- the latch that A leaves: kept, or set by an enable that rises while the status is 1
abbrev pub latch_enabled : Bool → Bool → Bool → Bool → Bool
latch_enabled before enable status kept =
    latched (record { kept = kept; enable = enable; enabled_before = before; status = status; raised = false })

-- WHAT THE SEQUENCER MAY CHANGE: itself, ENSELO (340h bit 6), ATN (343h bit 4) and the quiet ticks
unfoldable pub sequenced_of : State → Sequenced
sequenced_of s =
    record {
      sequencer = s.sequencer;
      enselo = s.registers.scsiseq.enselo;
      atno = s.registers.scsisig.atno;
      quiet = s.quiet;
    }

-- another sequencer, all else as it was
abbrev pub sequenced_with : Sequencer → Sequenced → Sequenced
sequenced_with q x = record { sequencer = q; enselo = x.enselo; atno = x.atno; quiet = x.quiet }

abbrev pub in_ticks : ℕ → Sequencer → Sequencer
in_ticks n q =
    record { phase = q.phase; ticks = n; noted = q.noted; selid = q.selid; status = q.status; latches = q.latches }

-- "Every change of phase starts at 0 ticks."
abbrev pub in_phase : Phase → Sequencer → Sequencer
in_phase p q =
    record { phase = p; ticks = 0; noted = q.noted; selid = q.selid; status = q.status; latches = q.latches }

unfoldable pub waited : ℕ → Sequenced → Sequenced
waited n x = sequenced_with (in_ticks n x.sequencer) x

unfoldable pub entered : Phase → Sequenced → Sequenced
entered p x = sequenced_with (in_phase p x.sequencer) x

abbrev pub selection_with : Bool → Bool → Bool → Bool → Selection
selection_with seldo seldi selingo selto = record { seldo = seldo; seldi = seldi; selingo = selingo; selto = selto }

-- SELINGO becomes 0
unfoldable pub selingo_cleared : Sequencer → Sequencer
selingo_cleared q =
    let t = q.status in
    record {
      phase = q.phase;
      ticks = q.ticks;
      noted = q.noted;
      selid = q.selid;
      status = selection_with t.seldo t.seldi false t.selto;
      latches = q.latches;
    }

-- SELINGO rises
unfoldable pub selingo_raised : Registers → Sequencer → Sequencer
selingo_raised r q =
    let t = q.status in
    let k = q.latches in
    record {
      phase = q.phase;
      ticks = q.ticks;
      noted = q.noted;
      selid = q.selid;
      status = selection_with t.seldo t.seldi true t.selto;
      latches = selection_with k.seldo k.seldi (latch_raised r.simode0.enselingo t.selingo k.selingo) k.selto;
    }

-- SELTO rises
unfoldable pub selto_raised : Registers → Sequencer → Sequencer
selto_raised r q =
    let t = q.status in
    let k = q.latches in
    record {
      phase = q.phase;
      ticks = q.ticks;
      noted = q.noted;
      selid = q.selid;
      status = selection_with t.seldo t.seldi t.selingo true;
      latches = selection_with k.seldo k.seldi k.selingo (latch_raised r.simode1.enseltimo t.selto k.selto);
    }

-- "SELDO rises, SELINGO 0"
unfoldable pub seldo_raised : Registers → Sequencer → Sequencer
seldo_raised r q =
    let t = q.status in
    let k = q.latches in
    record {
      phase = q.phase;
      ticks = q.ticks;
      noted = q.noted;
      selid = q.selid;
      status = selection_with true t.seldi false t.selto;
      latches = selection_with (latch_raised r.simode0.enseldo t.seldo k.seldo) k.seldi k.selingo k.selto;
    }

-- "345h takes the data that others drive, SELDI becomes 1 (its latch only if it was 0), noted becomes 0"
unfoldable pub seldi_raised : Registers → ℕ → Sequencer → Sequencer
seldi_raised r byte q =
    let t = q.status in
    let k = q.latches in
    record {
      phase = q.phase;
      ticks = q.ticks;
      noted = false;
      selid = byte;
      status = selection_with t.seldo true t.selingo t.selto;
      latches = selection_with k.seldo (latch_raised r.simode0.enseldi t.seldi k.seldi) k.selingo k.selto;
    }

-- IN B, QUIET TICKS: "bus free also clears SELDO, and SELDI where noted". "Noted is 0 whenever SELDI is 0."
unfoldable pub selection_freed : Sequencer → Sequencer
selection_freed q =
    let t = q.status in
    record {
      phase = q.phase;
      ticks = q.ticks;
      noted = false;
      selid = q.selid;
      status = selection_with false (not q.noted && t.seldi) t.selingo t.selto;
      latches = q.latches;
    }

-- IN B, THE SEQUENCER'S OWN PLACE. s is the state that the quiet ticks left.
-- 1. "RST seen: idle, SELINGO 0, and nothing below."
unfoldable pub silenced : Sequenced → Sequenced
silenced x =
    let q = x.sequencer in
    sequenced_with (selingo_cleared (cond (is_phase Idle q.phase) q (in_phase Idle q))) x

-- 2. "If the event is a tick, by phase", with n ticks spent in the phase once this one is counted
-- "waiting: ... at 16 or more: arbitrating, SELINGO 0, quiet ticks 0"
unfoldable pub arbitrates : Sequenced → Sequenced
arbitrates x =
    record { sequencer = selingo_cleared (in_phase Arbitrating x.sequencer); enselo = x.enselo; atno = x.atno; quiet = 0 }

unfoldable pub waiting_for : ℕ → Sequenced → Sequenced
waiting_for n x = cond (leb bus_free_delay n) (arbitrates x) (waited n x)

-- "arbitrating: one tick more; at 48 or more: if others drive a data bit above OID, lost: waiting; else clearing"
unfoldable pub arbitrating_for : State → ℕ → Sequenced → Sequenced
arbitrating_for s n x =
    cond (leb arbitration_delay n) (entered (cond (higher_id s) Waiting Clearing) x) (waited n x)

-- "clearing: one tick more; at 24 (16 and 8) or more: selecting, SELINGO rises, and with ENAUTOATNO 343h bit 4 is set"
unfoldable pub selects : State → Sequenced → Sequenced
selects s x =
    record {
      sequencer = selingo_raised s.registers (in_phase Selecting x.sequencer);
      enselo = x.enselo;
      atno = s.registers.scsiseq.enautoatno || x.atno;
      quiet = x.quiet;
    }

unfoldable pub clearing_for : State → ℕ → Sequenced → Sequenced
clearing_for s n x = cond (leb clearing_delay n) (selects s x) (waited n x)

-- "selecting: ... at or above the limit of STIMESEL: SELTO rises, ENSELO becomes 0, and it is idle with ENSELTIMO, else holding.
-- SELINGO stays"
unfoldable pub times_out : State → Sequenced → Sequenced
times_out s x =
    record {
      sequencer =
          selto_raised s.registers (in_phase (cond s.registers.simode1.enseltimo Idle Holding) x.sequencer);
      enselo = false;
      atno = x.atno;
      quiet = x.quiet;
    }

unfoldable pub selecting_for : State → ℕ → Sequenced → Sequenced
selecting_for s n x = cond (leb (timeout s.registers) n) (times_out s x) (waited n x)

-- "answering: one tick more; at 8 or more: answered, ... and with ENAUTOATNI 343h bit 4 is set"
unfoldable pub reselected : State → Sequenced → Sequenced
reselected s x =
    record {
      sequencer = seldi_raised s.registers s.lines.byte (in_phase Answered x.sequencer);
      enselo = x.enselo;
      atno = s.registers.scsiseq.enautoatni || x.atno;
      quiet = x.quiet;
    }

unfoldable pub answering_for : State → ℕ → Sequenced → Sequenced
answering_for s n x = cond (leb settle_delay n) (reselected s x) (waited n x)

-- "waiting: if the quiet ticks stood at 8 before this event and BSY and SEL are not seen, one tick more, else 0 ticks"; "selecting:
-- with ENSTIMER one tick more, else 0 ticks"; "the other phases: nothing"
unfoldable pub tick_in : Phase → ℕ → State → Sequenced → Sequenced
tick_in Idle before s x = x
tick_in Waiting before s x =
    waiting_for (cond (leb 8 before && not (bsy_seen s || sel_seen s)) (x.sequencer.ticks + 1) 0) x
tick_in Arbitrating before s x = arbitrating_for s (x.sequencer.ticks + 1) x
tick_in Clearing before s x = clearing_for s (x.sequencer.ticks + 1) x
tick_in Selecting before s x = selecting_for s (cond s.registers.sxfrctl1.enstimer (x.sequencer.ticks + 1) 0) x
tick_in Holding before s x = x
tick_in Answering before s x = answering_for s (x.sequencer.ticks + 1) x
tick_in Answered before s x = x

-- 3. "In every event, ticks or not, in this order"
-- "answering, and no longer called: idle"
unfoldable pub uncalled : State → Sequenced → Sequenced
uncalled s x = cond (is_phase Answering x.sequencer.phase && not (called s)) (entered Idle x) x

-- "answered, and others do not drive SEL: idle"
unfoldable pub let_go : State → Sequenced → Sequenced
let_go s x = cond (is_phase Answered x.sequencer.phase && not s.lines.sel) (entered Idle x) x

-- "arbitrating, and others drive SEL: lost: waiting"
unfoldable pub forestalled : State → Sequenced → Sequenced
forestalled s x = cond (is_phase Arbitrating x.sequencer.phase && s.lines.sel) (entered Waiting x) x

-- "selecting or holding, and others drive BSY: SELDO rises, SELINGO 0, ENSELO becomes 0, idle"
unfoldable pub connects : State → Sequenced → Sequenced
connects s x =
    record {
      sequencer = seldo_raised s.registers (in_phase Idle x.sequencer);
      enselo = false;
      atno = x.atno;
      quiet = x.quiet;
    }

unfoldable pub selected : State → Sequenced → Sequenced
selected s x =
    cond ((is_phase Selecting x.sequencer.phase || is_phase Holding x.sequencer.phase) && s.lines.bsy)
    (connects s x) x

-- "idle, and asked: waiting"
unfoldable pub begun : State → Sequenced → Sequenced
begun s x =
    cond (is_phase Idle x.sequencer.phase && asked_by x.enselo s.registers.scsiseq.temodeo) (entered Waiting x) x

-- "waiting, not asked, and the quiet ticks below 8: idle. (On a free bus the sequence is under way.)"
unfoldable pub withdrawn : State → Sequenced → Sequenced
withdrawn s x =
    cond
    (is_phase Waiting x.sequencer.phase && not (asked_by x.enselo s.registers.scsiseq.temodeo)
    && not (leb 8 x.quiet))
    (entered Idle x) x

-- "idle or waiting, and called: answering"
unfoldable pub answers : State → Sequenced → Sequenced
answers s x =
    cond ((is_phase Idle x.sequencer.phase || is_phase Waiting x.sequencer.phase) && called s) (entered Answering x) x

unfoldable pub resolved : State → Sequenced → Sequenced
resolved s x = answers s (withdrawn s (begun s (selected s (forestalled s (let_go s (uncalled s x))))))

-- the three together: tick tells whether the event is a tick, before is the number of quiet ticks before it
unfoldable pub sequenced : Bool → ℕ → State → Sequenced
sequenced tick before s =
    let x = sequenced_of s in
    cond (rst_seen s) (silenced x) (resolved s (cond tick (tick_in x.sequencer.phase before s x) x))
