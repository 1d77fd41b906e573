-- Worked examples: the faults of short lists of words. Each rule has a list that breaks it, and one beside that does not.
use Rattle.std.specs.Prelude.{ℕ, ◌≡◌, [], ◌∷◌, true, false, Some, None}
use Rattle.lk_base.specs.declared.word.RxWord.TheVariants.{Data, Control, Bad}
use Rattle.word_rules.specs.declared.fault.Fault.{Fault}
use Rattle.word_rules.specs.declared.rule.WordRule.{WordRule}
use Rattle.word_rules.specs.declared.rule.WordRule.TheVariants as rules
use Rattle.word_rules.specs.declared.limits.WordLimits.{WordLimits}
use Rattle.word_rules.specs.Faults.{Plan, faults}

-- bursts of at most 64 bytes and at least 32, burst words 32 bytes apart, and packets of at most 80 bytes
abbrev pub small : WordLimits
small = record { burst_max = 64; burst_short = 32; burst_min = 32; max_packet = 80; wide = false }

-- two channels and one entry
abbrev pub plain_plan : Plan
plain_plan = record { limits = small; channels = 0 ∷ 1 ∷ []; entries = 0 ∷ []; flow = [] }

-- two channels whose numbers are wide
abbrev pub wide_plan : Plan
wide_plan = record plain_plan { limits = record small { wide = true }; channels = 0 ∷ 261 ∷ [] }

-- seventeen entries
abbrev pub calendar_plan : Plan
calendar_plan = record plain_plan { entries = 0 ∷ 0 ∷ 0 ∷ 0 ∷ 0 ∷ 0 ∷ 0 ∷ 0 ∷ 0 ∷ 0 ∷ 0 ∷ 0 ∷ 0 ∷ 0 ∷ 0 ∷ 0 ∷ 0 ∷ [] }

-- channel 0 is off from slot 3 on
abbrev pub off_plan : Plan
off_plan = record plain_plan { flow = record { slot = 3; word = 0x817fff0000be98a3 } ∷ [] }

-- a row without a channel, and one with
abbrev pub told : ℕ → WordRule → Fault
told word rule = record { word = word; rule = rule; channel = None }

abbrev pub told_on : ℕ → WordRule → ℕ → Fault
told_on word rule channel = record { word = word; rule = rule; channel = Some channel }

pub record Examples : Type 0 where
  -- a packet of 60 bytes breaks no rule
  pub one_packet_of_sixty_bytes : faults plain_plan (Control 0x81ffff0000188177 ∷ Control 0xe1ffff00001e8142 ∷ Data 0x1020304050607 ∷ Data 0x8090a0b0c0d0e0f ∷ Data 0x1011121314151617 ∷ Data 0x18191a1b1c1d1e1f ∷ Data 0x2021222324252627 ∷ Data 0x28292a2b2c2d2e2f ∷ Data 0x3031323334353637 ∷ Data 0x38393a3b00000000 ∷ Control 0x99ffff0000391cc1 ∷ Control 0x81ffff0000188177 ∷ []) ≡
      []
  -- with one bit of a Data word inverted
  pub one_bit_of_its_data : faults plain_plan (Control 0x81ffff0000188177 ∷ Control 0xe1ffff00001e8142 ∷ Data 0x1020304050607 ∷ Data 0x8090a0b0c0d0e0f ∷ Data 0x1011121314151616 ∷ Data 0x18191a1b1c1d1e1f ∷ Data 0x2021222324252627 ∷ Data 0x28292a2b2c2d2e2f ∷ Data 0x3031323334353637 ∷ Data 0x38393a3b00000000 ∷ Control 0x99ffff0000391cc1 ∷ Control 0x81ffff0000188177 ∷ []) ≡
      told 10 rules.Crc ∷ []
  -- with the SOP bit cleared
  pub without_sop : faults plain_plan (Control 0x81ffff0000188177 ∷ Control 0xc1ffff0000f2f870 ∷ Data 0x1020304050607 ∷ Data 0x8090a0b0c0d0e0f ∷ Data 0x1011121314151617 ∷ Data 0x18191a1b1c1d1e1f ∷ Data 0x2021222324252627 ∷ Data 0x28292a2b2c2d2e2f ∷ Data 0x3031323334353637 ∷ Data 0x38393a3b00000000 ∷ Control 0x99ffff0000391cc1 ∷ Control 0x81ffff0000188177 ∷ []) ≡
      told_on 1 rules.Open 0 ∷ []
  -- on a channel that is not listed
  pub on_channel_seven : faults plain_plan (Control 0x81ffff0000188177 ∷ Control 0xe1ffff07009cc9b6 ∷ Data 0x1020304050607 ∷ Data 0x8090a0b0c0d0e0f ∷ Data 0x1011121314151617 ∷ Data 0x18191a1b1c1d1e1f ∷ Data 0x2021222324252627 ∷ Data 0x28292a2b2c2d2e2f ∷ Data 0x3031323334353637 ∷ Data 0x38393a3b00000000 ∷ Control 0x99ffff0000391cc1 ∷ Control 0x81ffff0000188177 ∷ []) ≡
      told_on 1 rules.Channel 7 ∷ []
  -- no word
  pub no_words : faults plain_plan ([]) ≡
      []
  -- a Bad word
  pub bad : faults plain_plan (Control 0x81ffff0000188177 ∷ Bad ∷ Control 0x81ffff0000188177 ∷ []) ≡
      told 1 rules.Bad ∷ []
  -- an end format that no receiver accepts; the calendar goes on without the word
  pub control : faults plain_plan (Control 0x81ffff0000188177 ∷ Control 0x85ffff0000d0e938 ∷ Control 0x81ffff0000188177 ∷ []) ≡
      told 1 rules.Control ∷ []
  -- a Control word without bit 63
  pub control_after_a_bad_word : faults plain_plan (Control 0x81ffff0000188177 ∷ Bad ∷ Control 0x1ffff0000fef81a ∷ []) ≡
      told 1 rules.Bad ∷ told 2 rules.Control ∷ []
  -- a wrong CRC24 after the Data of a burst
  pub crc : faults plain_plan (Control 0x81ffff0000188177 ∷ Control 0xe1ffff00001e8142 ∷ Data 0x1 ∷ Data 0x2 ∷ Data 0x3 ∷ Data 0x4 ∷ Control 0x91ffff0000791118 ∷ []) ≡
      told 6 rules.Crc ∷ []
  -- it is not told where a Bad word stands between the two control words
  pub no_crc_after_a_bad_word : faults plain_plan (Control 0x81ffff0000188177 ∷ Control 0xe1ffff00001e8142 ∷ Data 0x1 ∷ Data 0x2 ∷ Bad ∷ Data 0x3 ∷ Data 0x4 ∷ Control 0x91ffff0000e7b2f2 ∷ []) ≡
      told 4 rules.Bad ∷ []
  -- the first Control word covers the Data words from the start
  pub crc_at_the_start : faults plain_plan (Data 0x5 ∷ Control 0x81ffff00008e9bc3 ∷ []) ≡
      told 0 rules.Data ∷ told 1 rules.Crc ∷ []
  -- Data before any word, told once
  pub data_at_the_start : faults plain_plan (Data 0x5 ∷ Data 0x6 ∷ Control 0x81ffff0000d70c27 ∷ []) ≡
      told 0 rules.Data ∷ []
  -- Data after an idle, told once
  pub data_after_an_idle : faults plain_plan (Control 0x81ffff0000188177 ∷ Data 0x5 ∷ Data 0x6 ∷ Control 0x81ffff0000d70c27 ∷ []) ≡
      told 1 rules.Data ∷ []
  -- Data after a Bad word
  pub no_data_after_a_bad_word : faults plain_plan (Control 0x81ffff0000188177 ∷ Bad ∷ Data 0x5 ∷ Control 0x81ffff00008e9bc2 ∷ []) ≡
      told 1 rules.Bad ∷ []
  -- nine Data words of a burst of at most eight, told at the ninth
  pub max : faults plain_plan (Control 0x81ffff0000188177 ∷ Control 0xe1ffff00001e8142 ∷ Data 0x0 ∷ Data 0x1 ∷ Data 0x2 ∷ Data 0x3 ∷ Data 0x4 ∷ Data 0x5 ∷ Data 0x6 ∷ Data 0x7 ∷ Data 0x8 ∷ Control 0x91ffff0000a27b68 ∷ []) ≡
      told_on 10 rules.Max 0 ∷ []
  -- eight of them
  pub not_max : faults plain_plan (Control 0x81ffff0000188177 ∷ Control 0xe1ffff00001e8142 ∷ Data 0x0 ∷ Data 0x1 ∷ Data 0x2 ∷ Data 0x3 ∷ Data 0x4 ∷ Data 0x5 ∷ Data 0x6 ∷ Data 0x7 ∷ Control 0x91ffff00002f7bfc ∷ []) ≡
      []
  -- a Bad word ends the burst
  pub not_max_over_a_bad_word : faults plain_plan (Control 0x81ffff0000188177 ∷ Control 0xe1ffff00001e8142 ∷ Data 0x0 ∷ Data 0x1 ∷ Data 0x2 ∷ Data 0x3 ∷ Bad ∷ Data 0x0 ∷ Data 0x1 ∷ Data 0x2 ∷ Data 0x3 ∷ Data 0x4 ∷ Control 0x91ffff0000c01016 ∷ []) ≡
      told 6 rules.Bad ∷ []
  -- a burst word right before a Control word
  pub empty : faults plain_plan (Control 0x81ffff0000188177 ∷ Control 0xe1ffff00001e8142 ∷ Control 0x81ffff0000188177 ∷ Control 0x81ffff0000188177 ∷ Control 0x81ffff0000188177 ∷ Control 0x81ffff0000188177 ∷ []) ≡
      told_on 1 rules.Empty 0 ∷ []
  -- a burst word right before a Bad word
  pub not_empty_before_a_bad_word : faults plain_plan (Control 0x81ffff0000188177 ∷ Control 0xe1ffff00001e8142 ∷ Bad ∷ []) ≡
      told 2 rules.Bad ∷ []
  -- a burst word that is the last word
  pub not_empty_at_the_end : faults plain_plan (Control 0x81ffff0000188177 ∷ Control 0xe1ffff00001e8142 ∷ []) ≡
      []
  -- three words between two burst words, where there have to be four
  pub short : faults plain_plan (Control 0x81ffff0000188177 ∷ Control 0xe1ffff00001e8142 ∷ Data 0x1 ∷ Data 0x2 ∷ Data 0x3 ∷ Control 0xf1ffff000065b7dc ∷ Data 0x1 ∷ Data 0x2 ∷ Data 0x3 ∷ Data 0x4 ∷ Control 0x91ffff0000791119 ∷ []) ≡
      told_on 5 rules.Short 0 ∷ []
  -- four words
  pub not_short : faults plain_plan (Control 0x81ffff0000188177 ∷ Control 0xe1ffff00001e8142 ∷ Data 0x1 ∷ Data 0x2 ∷ Data 0x3 ∷ Data 0x4 ∷ Control 0xf1ffff00007f112c ∷ Data 0x1 ∷ Data 0x2 ∷ Data 0x3 ∷ Data 0x4 ∷ Control 0x91ffff0000791119 ∷ []) ≡
      []
  -- a burst word before a Bad word is unknown
  pub not_short_after_a_bad_word : faults plain_plan (Control 0x81ffff0000188177 ∷ Control 0xe1ffff00001e8142 ∷ Data 0x1 ∷ Bad ∷ Control 0xe1ffff00001e8142 ∷ Data 0x1 ∷ Data 0x2 ∷ Data 0x3 ∷ Data 0x4 ∷ Control 0x91ffff0000791119 ∷ []) ≡
      told 3 rules.Bad ∷ []
  -- it is counted from the burst word, and not from the end of its burst
  pub not_short_by_idles : faults plain_plan (Control 0x81ffff0000188177 ∷ Control 0xe1ffff00001e8142 ∷ Data 0x1 ∷ Data 0x2 ∷ Control 0x91ffff0000ffe797 ∷ Control 0x81ffff0000188177 ∷ Control 0xe1ffff00001e8142 ∷ Data 0x1 ∷ Data 0x2 ∷ Data 0x3 ∷ Data 0x4 ∷ Control 0x91ffff0000791119 ∷ []) ≡
      []
  -- an end format after no Data
  pub end_after_an_idle : faults plain_plan (Control 0x81ffff0000188177 ∷ Control 0x93ffff000093cc78 ∷ []) ≡
      told 1 rules.End ∷ []
  -- an end with error is an end format
  pub error_after_an_idle : faults plain_plan (Control 0x81ffff0000188177 ∷ Control 0x83ffff0000e5f0e1 ∷ []) ≡
      told 1 rules.End ∷ []
  -- after a Bad word, and after Data that follow one
  pub no_end_after_a_bad_word : faults plain_plan (Control 0x81ffff0000188177 ∷ Bad ∷ Control 0x93ffff000093cc78 ∷ Bad ∷ Data 0x5 ∷ Control 0x93ffff000005d6cd ∷ []) ≡
      told 1 rules.Bad ∷ told 3 rules.Bad ∷ []
  -- an end format after a burst word without Data
  pub end_of_an_empty_burst : faults plain_plan (Control 0x81ffff0000188177 ∷ Control 0xe1ffff00001e8142 ∷ Control 0x91ffff00006ebdee ∷ Control 0x81ffff0000188177 ∷ []) ≡
      told_on 1 rules.Empty 0 ∷ told 2 rules.End ∷ []
  -- Data after an idle are no burst
  pub end_after_data_of_no_burst : faults plain_plan (Control 0x81ffff0000188177 ∷ Data 0x5 ∷ Control 0x91ffff0000f8a75b ∷ []) ≡
      told 1 rules.Data ∷ told 2 rules.End ∷ []
  -- seven valid bytes, and the eighth is 4
  pub fill : faults plain_plan (Control 0x81ffff0000188177 ∷ Control 0xe1ffff00001e8142 ∷ Data 0x1 ∷ Data 0x2 ∷ Data 0x3 ∷ Data 0x4 ∷ Control 0x9fffff0000ee533d ∷ []) ≡
      told_on 6 rules.Fill 0 ∷ []
  -- seven valid bytes, and the eighth is 0
  pub not_fill : faults plain_plan (Control 0x81ffff0000188177 ∷ Control 0xe1ffff00001e8142 ∷ Data 0x1 ∷ Data 0x2 ∷ Data 0x3 ∷ Data 0x400 ∷ Control 0x9fffff000062146a ∷ []) ≡
      []
  -- an end with error has no valid bytes
  pub not_fill_with_error : faults plain_plan (Control 0x81ffff0000188177 ∷ Control 0xe1ffff00001e8142 ∷ Data 0x1 ∷ Data 0x2 ∷ Data 0x3 ∷ Data 0x4 ∷ Control 0x83ffff0000f25c16 ∷ []) ≡
      []
  -- five Data words of a packet that goes on
  pub part : faults plain_plan (Control 0x81ffff0000188177 ∷ Control 0xe1ffff00001e8142 ∷ Data 0x0 ∷ Data 0x1 ∷ Data 0x2 ∷ Data 0x3 ∷ Data 0x4 ∷ Control 0x81ffff0000b62c8f ∷ []) ≡
      told_on 7 rules.Part 0 ∷ []
  -- four Data words of a packet that goes on
  pub not_part : faults plain_plan (Control 0x81ffff0000188177 ∷ Control 0xe1ffff00001e8142 ∷ Data 0x0 ∷ Data 0x1 ∷ Data 0x2 ∷ Data 0x3 ∷ Control 0x81ffff00003d3817 ∷ []) ≡
      []
  -- a last burst of 24 bytes, where 32 are the least
  pub min : faults plain_plan (Control 0x81ffff0000188177 ∷ Control 0xe1ffff00001e8142 ∷ Data 0x0 ∷ Data 0x1 ∷ Data 0x2 ∷ Data 0x3 ∷ Control 0xc1ffff0000d74110 ∷ Data 0x1 ∷ Data 0x2 ∷ Data 0x3 ∷ Control 0x91ffff000063b7e9 ∷ Control 0x81ffff0000188177 ∷ []) ≡
      told_on 10 rules.Min 0 ∷ []
  -- a last burst of 31 bytes
  pub min_by_valid_bytes : faults plain_plan (Control 0x81ffff0000188177 ∷ Control 0xe1ffff00001e8142 ∷ Data 0x0 ∷ Data 0x1 ∷ Data 0x2 ∷ Data 0x3 ∷ Control 0xc1ffff0000d74110 ∷ Data 0x1 ∷ Data 0x2 ∷ Data 0x3 ∷ Data 0x400 ∷ Control 0x9fffff000062146a ∷ Control 0x81ffff0000188177 ∷ []) ≡
      told_on 11 rules.Min 0 ∷ []
  -- a packet of 8 bytes in one burst
  pub not_min_where_whole : faults plain_plan (Control 0x81ffff0000188177 ∷ Control 0xe1ffff00001e8142 ∷ Data 0x1 ∷ Control 0x91ffff000056dc1a ∷ Control 0x81ffff0000188177 ∷ []) ≡
      []
  -- a last burst of 32 bytes, that ends with error
  pub not_min : faults plain_plan (Control 0x81ffff0000188177 ∷ Control 0xe1ffff00001e8142 ∷ Data 0x0 ∷ Data 0x1 ∷ Data 0x2 ∷ Data 0x3 ∷ Control 0xc1ffff0000d74110 ∷ Data 0x1 ∷ Data 0x2 ∷ Data 0x3 ∷ Data 0x4 ∷ Control 0x83ffff0000f25c16 ∷ Control 0x81ffff0000188177 ∷ []) ≡
      []
  -- SOP on a channel whose packet has not ended
  pub sop : faults plain_plan (Control 0x81ffff0000188177 ∷ Control 0xe1ffff00001e8142 ∷ Data 0x1 ∷ Data 0x2 ∷ Data 0x3 ∷ Data 0x4 ∷ Control 0xe1ffff0000092db5 ∷ Data 0x1 ∷ Data 0x2 ∷ Data 0x3 ∷ Data 0x4 ∷ Control 0x91ffff0000791119 ∷ []) ≡
      told_on 6 rules.Sop 0 ∷ []
  -- an end format that is not accepted ends no packet; a refused word begins none
  pub sop_after_a_refused_end : faults plain_plan (Control 0x81ffff0000188177 ∷ Control 0xe1ffff00001e8142 ∷ Data 0x1 ∷ Data 0x2 ∷ Data 0x3 ∷ Data 0x4 ∷ Control 0xe5ffff0000c145fa ∷ Data 0x1 ∷ Data 0x2 ∷ Data 0x3 ∷ Data 0x4 ∷ Control 0x91ffff0000791119 ∷ []) ≡
      told 6 rules.Control ∷ told 7 rules.Data ∷ told 11 rules.End ∷ []
  -- the same, with the next burst word after it
  pub sop_after_a_refused_word : faults plain_plan (Control 0x81ffff0000188177 ∷ Control 0xe1ffff00001e8142 ∷ Data 0x1 ∷ Data 0x2 ∷ Data 0x3 ∷ Data 0x4 ∷ Control 0x85ffff0000c745cf ∷ Control 0xe1ffff00001e8142 ∷ Data 0x1 ∷ Data 0x2 ∷ Data 0x3 ∷ Data 0x4 ∷ Control 0x91ffff0000791119 ∷ []) ≡
      told 6 rules.Control ∷ told_on 7 rules.Sop 0 ∷ []
  -- after a Bad word the channel is unknown
  pub not_sop_after_a_bad_word : faults plain_plan (Control 0x81ffff0000188177 ∷ Control 0xe1ffff00001e8142 ∷ Data 0x1 ∷ Data 0x2 ∷ Data 0x3 ∷ Data 0x4 ∷ Bad ∷ Control 0xe1ffff00001e8142 ∷ Data 0x1 ∷ Data 0x2 ∷ Data 0x3 ∷ Data 0x4 ∷ Control 0x91ffff0000791119 ∷ []) ≡
      told 6 rules.Bad ∷ []
  -- an end with error ends the packet
  pub not_sop_after_an_error : faults plain_plan (Control 0x81ffff0000188177 ∷ Control 0xe1ffff00001e8142 ∷ Data 0x1 ∷ Data 0x2 ∷ Data 0x3 ∷ Data 0x4 ∷ Control 0x83ffff0000f25c16 ∷ Control 0xe1ffff00001e8142 ∷ Data 0x1 ∷ Data 0x2 ∷ Data 0x3 ∷ Data 0x4 ∷ Control 0x91ffff0000791119 ∷ []) ≡
      []
  -- two channels in turn
  pub not_sop_on_another_channel : faults plain_plan (Control 0x81ffff0000188177 ∷ Control 0xe1ffff00001e8142 ∷ Data 0x1 ∷ Data 0x2 ∷ Data 0x3 ∷ Data 0x4 ∷ Control 0xe1ffff0100590084 ∷ Data 0x1 ∷ Data 0x2 ∷ Data 0x3 ∷ Data 0x4 ∷ Control 0xd1ffff000093681e ∷ Data 0x1 ∷ Data 0x2 ∷ Data 0x3 ∷ Data 0x4 ∷ Control 0x91ffff0000791119 ∷ []) ≡
      []
  -- no SOP on a channel whose packet has ended
  pub open_after_an_end : faults plain_plan (Control 0x81ffff0000188177 ∷ Control 0xe1ffff00001e8142 ∷ Data 0x1 ∷ Data 0x2 ∷ Data 0x3 ∷ Data 0x4 ∷ Control 0xd1ffff000093681e ∷ Data 0x1 ∷ Data 0x2 ∷ Data 0x3 ∷ Data 0x4 ∷ Control 0x91ffff0000791119 ∷ []) ≡
      told_on 6 rules.Open 0 ∷ []
  -- nor after an end with error
  pub open_after_an_error : faults plain_plan (Control 0x81ffff0000188177 ∷ Control 0xe1ffff00001e8142 ∷ Data 0x1 ∷ Data 0x2 ∷ Data 0x3 ∷ Data 0x4 ∷ Control 0xc3ffff0000182511 ∷ Data 0x1 ∷ Data 0x2 ∷ Data 0x3 ∷ Data 0x4 ∷ Control 0x91ffff0000791119 ∷ []) ≡
      told_on 6 rules.Open 0 ∷ []
  -- no SOP on the first burst of a channel
  pub open_at_the_start : faults plain_plan (Control 0x81ffff0000188177 ∷ Control 0xc1ffff0000f2f870 ∷ Data 0x1 ∷ Data 0x2 ∷ Data 0x3 ∷ Data 0x4 ∷ Control 0x91ffff0000791119 ∷ []) ≡
      told_on 1 rules.Open 0 ∷ []
  -- after a Bad word it is not known
  pub not_open_after_a_bad_word : faults plain_plan (Control 0x81ffff0000188177 ∷ Bad ∷ Control 0xc1ffff0000f2f870 ∷ Data 0x1 ∷ Data 0x2 ∷ Data 0x3 ∷ Data 0x4 ∷ Control 0x91ffff0000791119 ∷ []) ≡
      told 1 rules.Bad ∷ []
  -- a packet that ended before a Bad word is unknown
  pub not_open_after_an_end_and_a_bad_word : faults plain_plan (Control 0x81ffff0000188177 ∷ Control 0xe1ffff00001e8142 ∷ Data 0x1 ∷ Data 0x2 ∷ Data 0x3 ∷ Data 0x4 ∷ Control 0x91ffff0000791119 ∷ Bad ∷ Control 0xc1ffff0000f2f870 ∷ Data 0x1 ∷ Data 0x2 ∷ Data 0x3 ∷ Data 0x4 ∷ Control 0x91ffff0000791119 ∷ []) ≡
      told 7 rules.Bad ∷ []
  -- a burst after the Bad word is known
  pub open_is_known_again : faults plain_plan (Control 0x81ffff0000188177 ∷ Control 0xe1ffff00001e8142 ∷ Data 0x1 ∷ Data 0x2 ∷ Data 0x3 ∷ Data 0x4 ∷ Bad ∷ Control 0xc1ffff0000f2f870 ∷ Data 0x1 ∷ Data 0x2 ∷ Data 0x3 ∷ Data 0x4 ∷ Control 0xd1ffff000093681e ∷ Data 0x1 ∷ Data 0x2 ∷ Data 0x3 ∷ Data 0x4 ∷ Control 0x91ffff0000791119 ∷ []) ≡
      told 6 rules.Bad ∷ told_on 12 rules.Open 0 ∷ []
  -- a channel that is not listed
  pub channel : faults plain_plan (Control 0x81ffff0000188177 ∷ Control 0xe1ffff0200bedb20 ∷ Data 0x1 ∷ Data 0x2 ∷ Data 0x3 ∷ Data 0x4 ∷ Control 0x91ffff0000791119 ∷ []) ≡
      told_on 1 rules.Channel 2 ∷ []
  -- channel 261 of a wide plan
  pub not_channel_where_wide : faults wide_plan (Control 0x81ffff0000188177 ∷ Control 0xe1ffff050132ca12 ∷ Data 0x1 ∷ Data 0x2 ∷ Data 0x3 ∷ Data 0x4 ∷ Control 0x91ffff0000791119 ∷ []) ≡
      []
  -- channel 5 of a wide plan, where 261 is listed
  pub channel_where_wide : faults wide_plan (Control 0x81ffff0000188177 ∷ Control 0xe1ffff05003c93d4 ∷ Data 0x1 ∷ Data 0x2 ∷ Data 0x3 ∷ Data 0x4 ∷ Control 0x91ffff0000791119 ∷ []) ≡
      told_on 1 rules.Channel 5 ∷ []
  -- a packet that has not yet reached a closing word
  pub open_of_96 : faults plain_plan (Control 0x81ffff0000188177 ∷ Control 0xe1ffff00001e8142 ∷ Data 0x0 ∷ Data 0x1 ∷ Data 0x2 ∷ Data 0x3 ∷ Data 0x4 ∷ Data 0x5 ∷ Data 0x6 ∷ Data 0x7 ∷ Control 0xc1ffff0000b33e62 ∷ Data 0x0 ∷ Data 0x1 ∷ Data 0x2 ∷ Data 0x3 ∷ []) ≡
      []
  -- a packet of 96 and then 128 bytes, where 80 are the most, told once
  pub long : faults plain_plan (Control 0x81ffff0000188177 ∷ Control 0xe1ffff00001e8142 ∷ Data 0x0 ∷ Data 0x1 ∷ Data 0x2 ∷ Data 0x3 ∷ Data 0x4 ∷ Data 0x5 ∷ Data 0x6 ∷ Data 0x7 ∷ Control 0xc1ffff0000b33e62 ∷ Data 0x0 ∷ Data 0x1 ∷ Data 0x2 ∷ Data 0x3 ∷ Control 0xc1ffff0000d74110 ∷ Data 0x0 ∷ Data 0x1 ∷ Data 0x2 ∷ Data 0x3 ∷ Control 0x91ffff00004b048e ∷ []) ≡
      told_on 15 rules.Long 0 ∷ []
  -- a packet of 84 bytes, the last 20 of them in a burst
  pub long_of_84 : faults plain_plan (Control 0x81ffff0000188177 ∷ Control 0xe1ffff00001e8142 ∷ Data 0x0 ∷ Data 0x1 ∷ Data 0x2 ∷ Data 0x3 ∷ Data 0x4 ∷ Data 0x5 ∷ Data 0x6 ∷ Data 0x7 ∷ Control 0xc1ffff0000b33e62 ∷ Data 0x1 ∷ Data 0x2 ∷ Data 0x300000000 ∷ Control 0x99ffff0000e756ff ∷ Control 0x81ffff0000188177 ∷ []) ≡
      told_on 14 rules.Min 0 ∷ told_on 14 rules.Long 0 ∷ []
  -- a packet of 76 bytes, the last 12 of them in a burst
  pub not_long : faults plain_plan (Control 0x81ffff0000188177 ∷ Control 0xe1ffff00001e8142 ∷ Data 0x0 ∷ Data 0x1 ∷ Data 0x2 ∷ Data 0x3 ∷ Data 0x4 ∷ Data 0x5 ∷ Data 0x6 ∷ Data 0x7 ∷ Control 0xc1ffff0000b33e62 ∷ Data 0x1 ∷ Data 0x200000000000000 ∷ Control 0x99ffff0000f411ef ∷ Control 0x81ffff0000188177 ∷ Control 0x81ffff0000188177 ∷ []) ≡
      told_on 13 rules.Min 0 ∷ []
  -- a refused word closes the burst
  pub not_long_where_refused : faults plain_plan (Control 0x81ffff0000188177 ∷ Control 0xe1ffff00001e8142 ∷ Data 0x0 ∷ Data 0x1 ∷ Data 0x2 ∷ Data 0x3 ∷ Data 0x4 ∷ Data 0x5 ∷ Data 0x6 ∷ Data 0x7 ∷ Control 0xc1ffff0000b33e62 ∷ Data 0x0 ∷ Data 0x1 ∷ Data 0x2 ∷ Data 0x3 ∷ Control 0x85ffff0000f55058 ∷ Control 0x81ffff0000188177 ∷ []) ≡
      told 15 rules.Control ∷ []
  -- where its SOP is unknown
  pub not_long_after_a_bad_word : faults plain_plan (Control 0x81ffff0000188177 ∷ Control 0xe1ffff00001e8142 ∷ Data 0x0 ∷ Data 0x1 ∷ Data 0x2 ∷ Data 0x3 ∷ Data 0x4 ∷ Data 0x5 ∷ Data 0x6 ∷ Data 0x7 ∷ Control 0x81ffff0000594765 ∷ Bad ∷ Control 0xc1ffff0000f2f870 ∷ Data 0x0 ∷ Data 0x1 ∷ Data 0x2 ∷ Data 0x3 ∷ Control 0x91ffff00004b048e ∷ []) ≡
      told 11 rules.Bad ∷ []
  -- a burst before has ended the packet
  pub not_long_after_an_end : faults plain_plan (Control 0x81ffff0000188177 ∷ Control 0xe1ffff00001e8142 ∷ Data 0x0 ∷ Data 0x1 ∷ Data 0x2 ∷ Data 0x3 ∷ Data 0x4 ∷ Data 0x5 ∷ Data 0x6 ∷ Data 0x7 ∷ Control 0xd1ffff0000c502fb ∷ Data 0x0 ∷ Data 0x1 ∷ Data 0x2 ∷ Data 0x3 ∷ Control 0x91ffff00004b048e ∷ []) ≡
      told_on 10 rules.Open 0 ∷ []
  -- the burst of another channel between does not count
  pub long_around_another_channel : faults plain_plan (Control 0x81ffff0000188177 ∷ Control 0xe1ffff00001e8142 ∷ Data 0x0 ∷ Data 0x1 ∷ Data 0x2 ∷ Data 0x3 ∷ Data 0x4 ∷ Data 0x5 ∷ Data 0x6 ∷ Data 0x7 ∷ Control 0xe1ffff01000f6a61 ∷ Data 0x0 ∷ Data 0x1 ∷ Data 0x2 ∷ Data 0x3 ∷ Control 0xd1ffff0000a17d89 ∷ Data 0x0 ∷ Data 0x1 ∷ Data 0x2 ∷ Data 0x3 ∷ Control 0x91ffff00004b048e ∷ []) ≡
      told_on 20 rules.Long 0 ∷ []
  -- an idle with SOP
  pub idle_with_sop : faults plain_plan (Control 0x81ffff0000188177 ∷ Control 0xa1ffff0000f4f845 ∷ []) ≡
      told 1 rules.Idle ∷ []
  -- an idle with a channel
  pub idle_with_channel : faults plain_plan (Control 0x81ffff0000188177 ∷ Control 0x81ffff010048ac46 ∷ []) ≡
      told 1 rules.Idle ∷ []
  -- an idle with multiple use
  pub idle_with_multi : faults plain_plan (Control 0x81ffff0000188177 ∷ Control 0x81ffff000116d8b1 ∷ []) ≡
      told 1 rules.Idle ∷ []
  -- a refused word is no idle
  pub not_idle_where_refused : faults plain_plan (Control 0x81ffff0000188177 ∷ Control 0xa5ffff00003c900a ∷ []) ≡
      told 1 rules.Control ∷ []
  -- multiple use in a burst word of a narrow plan
  pub multi : faults plain_plan (Control 0x81ffff0000188177 ∷ Control 0xe1ffff000110d884 ∷ Data 0x1 ∷ Data 0x2 ∷ Data 0x3 ∷ Data 0x4 ∷ Control 0x91ffff0000791119 ∷ []) ≡
      told_on 1 rules.Multi 0 ∷ []
  -- 17 entries take two words; the second word has Reset Calendar
  pub calendar : faults calendar_plan (Control 0x81ffff0000188177 ∷ Control 0x81ffff0000188177 ∷ []) ≡
      told 1 rules.Calendar ∷ []
  -- no word has it, and the second and third ought to
  pub calendar_missing : faults calendar_plan (Control 0x80ffff00006639bc ∷ Control 0x80ffff00006639bc ∷ Control 0x80ffff00006639bc ∷ []) ≡
      told 2 rules.Calendar ∷ []
  -- it comes with each second word; after a Bad word either may have it
  pub not_calendar : faults calendar_plan (Control 0x80ffff00006639bc ∷ Control 0x81ffff0000188177 ∷ Control 0x80ffff00006639bc ∷ Control 0x81ffff0000188177 ∷ Bad ∷ Control 0x81ffff0000188177 ∷ Control 0x80ffff00006639bc ∷ Control 0x81ffff0000188177 ∷ []) ≡
      told 4 rules.Bad ∷ []
  -- the second word has entry 16 in bit 55, and bit 54 is past the last
  pub calendar_past_last : faults calendar_plan (Control 0x81ffff0000188177 ∷ Control 0x807fff0000c02068 ∷ Control 0x81ffff0000188177 ∷ Control 0x80bfff0000353556 ∷ []) ≡
      told 3 rules.Calendar ∷ []
  -- a word without Reset Calendar has no entry, and its bits are past the last
  pub calendar_of_one : faults plain_plan (Control 0x817fff0000be98a3 ∷ Control 0x807fff0000c02068 ∷ Control 0x81ffff0000188177 ∷ []) ≡
      told 1 rules.Calendar ∷ told 2 rules.Calendar ∷ []
  -- a burst word at slot 3 on a channel that is off from slot 3 on
  pub off : faults off_plan (Control 0x81ffff0000188177 ∷ Control 0x81ffff0000188177 ∷ Control 0x81ffff0000188177 ∷ Control 0xe1ffff00001e8142 ∷ Data 0x1 ∷ Data 0x2 ∷ Data 0x3 ∷ Data 0x4 ∷ Control 0x91ffff0000791119 ∷ []) ≡
      told_on 3 rules.Off 0 ∷ []
  -- at slot 2
  pub not_off : faults off_plan (Control 0x81ffff0000188177 ∷ Control 0x81ffff0000188177 ∷ Control 0xe1ffff00001e8142 ∷ Data 0x1 ∷ Data 0x2 ∷ Data 0x3 ∷ Data 0x4 ∷ Control 0x91ffff0000791119 ∷ []) ≡
      []
  -- on another channel
  pub not_off_on_another : faults off_plan (Control 0x81ffff0000188177 ∷ Control 0x81ffff0000188177 ∷ Control 0x81ffff0000188177 ∷ Control 0xe1ffff01004eac73 ∷ Data 0x1 ∷ Data 0x2 ∷ Data 0x3 ∷ Data 0x4 ∷ Control 0x91ffff0000791119 ∷ []) ≡
      []
  -- a channel that is not listed is told by its own rule alone
  pub not_off_where_unlisted : faults off_plan (Control 0x81ffff0000188177 ∷ Control 0x81ffff0000188177 ∷ Control 0x81ffff0000188177 ∷ Control 0xe1ffff0200bedb20 ∷ Data 0x1 ∷ Data 0x2 ∷ Data 0x3 ∷ Data 0x4 ∷ Control 0x91ffff0000791119 ∷ []) ≡
      told_on 3 rules.Channel 2 ∷ []
