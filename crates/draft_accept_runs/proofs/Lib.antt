mod Accepts
