mod FramePackets
mod ShareFrames
