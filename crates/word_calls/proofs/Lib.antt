mod OnePacket
mod Running
