-- The engines whose stores stand beside each other over one account. 01, "What one store holds": "A store is one engine (buddy or
-- free list)".

pub data Which : Type 0 where
  a_list : Which
  a_buddy : Which
