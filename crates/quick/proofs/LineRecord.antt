-- The record of the present lines: it is a line event, and it changes nothing.
use mathlib.Core.Path.{◌≡◌}
use mathlib.Core.Bool.{Bool, true, false}
use Prim.Native.Nat.{ℕ, ◌+◌, ◌*◌, ◌/◌, ◌%◌, ◌^◌, ◌<◌, ◌≤◌}
use native.Mathlib.Omega.{arith}
use lib.Dec.{eqb}
use Rattle.rules.specs.Numbers.{bit, field, one, byte_of}
use Rattle.rules.specs.Records.{lines_of}
use Rattle.rules.specs.declared.records.Lines.{Lines}
use Rattle.rules.proofs.Ranges.{one_fits}
use Rattle.quick.specs.Ready.{lines_record}

bit_back : (n : ℕ) (b : Bool) → n ≡ one b → eqb n 1 ≡ b
bit_back n true h = rw h
bit_back n false h = rw h

-- each line is 0 or 1
record Ones (l : Lines) : Type 0 where
  parity : one l.parity ≤ 1
  rst : one l.rst ≤ 1
  cd : one l.cd ≤ 1
  io : one l.io ≤ 1
  msg : one l.msg ≤ 1
  atn : one l.atn ≤ 1
  sel : one l.sel ≤ 1
  bsy : one l.bsy ≤ 1
  req : one l.req ≤ 1
  ack : one l.ack ≤ 1

module _ (l : Lines) (fits : l.byte < 256) where
  ones : Ones l
  ones =
      record {
        parity = one_fits l.parity;
        rst = one_fits l.rst;
        cd = one_fits l.cd;
        io = one_fits l.io;
        msg = one_fits l.msg;
        atn = one_fits l.atn;
        sel = one_fits l.sel;
        bsy = one_fits l.bsy;
        req = one_fits l.req;
        ack = one_fits l.ack;
      }

  -- the payload: data, parity, RST, then a byte of eight lines
  abbrev p : ℕ
  p = lines_record l % 262144

  abbrev eight : ℕ
  eight = byte_of l.cd l.io l.msg l.atn l.sel l.bsy l.req l.ack

  abbrev low : ℕ
  low = one l.parity * 512 + one l.rst * 256 + eight

  eight_fits : eight < 256
  eight_fits = let f = ones in omega arith

  low_fits : low < 1024
  low_fits = let f = ones in omega (arith, eight_fits)

  whole : lines_record l ≡ 0xA0000000 + l.byte * 1024 + low
  unfolding lines_record
  whole = omega arith

  pub record_small : lines_record l < 4294967296
  record_small = omega (arith, whole, low_fits)

  pub record_high : lines_record l / 262144 ≡ 0x2800
  record_high = omega (arith, whole, low_fits)

  payload : p ≡ l.byte * 1024 + low
  payload = omega (arith, whole, low_fits)

  -- each line in its place
  parity_back : bit p 9 ≡ l.parity
  parity_back = bit_back (p / 2 ^ 9 % 2) l.parity (let f = ones in omega (arith, payload))

  rst_back : bit p 8 ≡ l.rst
  rst_back = bit_back (p / 2 ^ 8 % 2) l.rst (let f = ones in omega (arith, payload))

  cd_back : bit p 7 ≡ l.cd
  cd_back = bit_back (p / 2 ^ 7 % 2) l.cd (let f = ones in omega (arith, payload))

  io_back : bit p 6 ≡ l.io
  io_back = bit_back (p / 2 ^ 6 % 2) l.io (let f = ones in omega (arith, payload))

  msg_back : bit p 5 ≡ l.msg
  msg_back = bit_back (p / 2 ^ 5 % 2) l.msg (let f = ones in omega (arith, payload))

  atn_back : bit p 4 ≡ l.atn
  atn_back = bit_back (p / 2 ^ 4 % 2) l.atn (let f = ones in omega (arith, payload))

  sel_back : bit p 3 ≡ l.sel
  sel_back = bit_back (p / 2 ^ 3 % 2) l.sel (let f = ones in omega (arith, payload))

  bsy_back : bit p 2 ≡ l.bsy
  bsy_back = bit_back (p / 2 ^ 2 % 2) l.bsy (let f = ones in omega (arith, payload))

  req_back : bit p 1 ≡ l.req
  req_back = bit_back (p / 2 ^ 1 % 2) l.req (let f = ones in omega (arith, payload))

  ack_back : bit p 0 ≡ l.ack
  ack_back = bit_back (p / 2 ^ 0 % 2) l.ack (let f = ones in omega (arith, payload))

  byte_back : field p 10 8 ≡ l.byte
  byte_back = omega (arith, payload, low_fits)

  -- THE LINES OF THE RECORD ARE THE LINES
  pub lines_back : lines_of (lines_record l % 262144) ≡ l
  unfolding lines_of
  lines_back =
      λ j.
      record {
        byte = byte_back j;
        parity = parity_back j;
        rst = rst_back j;
        cd = cd_back j;
        io = io_back j;
        msg = msg_back j;
        atn = atn_back j;
        sel = sel_back j;
        bsy = bsy_back j;
        req = req_back j;
        ack = ack_back j;
      }
